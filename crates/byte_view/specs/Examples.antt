-- Files and cells that were worked out by hand, and what reading gives for each.
use Rattle.std.specs.Prelude.{◌≡◌, ◌≤◌, ℕ, ◌+◌, List, [], ◌∷◌, ◌++◌, length, codes, replicate, slice_index, None, Some, Ok, Err}
use Rattle.byteorder.specs.Endian.{little_bytes}
use Rattle.byte_view.specs.Numbers.{compressed_at}
use Rattle.byte_view.specs.Parts as parts
use Rattle.byte_view.specs.Columns.{RowOf, width, type_def_or_ref}
use Rattle.byte_view.specs.Heaps.{user_string_at}
use Rattle.byte_view.specs.Assembly.{assembly}

-- of a file of 62 bytes that begins with `MZ`, the number at 60 is cut
abbrev pub CutFile : Type 0
CutFile =
    (rest : List ℕ) → length rest ≡ 60 → assembly (0x4D ∷ 0x5A ∷ rest) ≡ Err (parts.pe_offset, 60)

-- compressed numbers of one, two and four bytes, a longer spelling than needed, and a first byte
-- that begins none
abbrev pub CompressedNumbers : Type 0
CompressedNumbers =
    (compressed_at (0x03 ∷ []) 0 ≡ Some (3, 1))
    × (compressed_at (0x80 ∷ 0x05 ∷ []) 0 ≡ Some (5, 2))
    × (compressed_at (0xDF ∷ 0xFF ∷ 0xFF ∷ 0xFF ∷ []) 0 ≡ Some (536870911, 4))
    × (compressed_at (0xE0 ∷ 0x00 ∷ 0x00 ∷ 0x00 ∷ []) 0 ≡ None)
    × (compressed_at (0x80 ∷ []) 0 ≡ None)

-- an index of a table, by its rows
abbrev pub IndexWidths : Type 0
IndexWidths =
    (heap_sizes : ℕ) (rows : List ℕ) (table : ℕ)
    → (slice_index rows table ≡ 65535 → width heap_sizes rows (RowOf table) ≡ 2)
    × (slice_index rows table ≡ 65536 → width heap_sizes rows (RowOf table) ≡ 4)

-- an index with two tag bits, by the rows of TypeDef, where TypeRef and TypeSpec have none
abbrev pub CodedIndexWidths : Type 0
CodedIndexWidths =
    (heap_sizes : ℕ) (rows : List ℕ)
    → slice_index rows 0x01 ≡ 0
    → slice_index rows 0x1B ≡ 0
    → (slice_index rows 0x02 ≡ 16383 → width heap_sizes rows type_def_or_ref ≡ 2)
    × (slice_index rows 0x02 ≡ 16384 → width heap_sizes rows type_def_or_ref ≡ 4)

-- no user string stands past its heap
abbrev pub NoUserStringPastHeap : Type 0
NoUserStringPastHeap = (heap : List ℕ) (at : ℕ) → length heap ≤ at → user_string_at heap at ≡ None

abbrev pub u16 : ℕ → List ℕ
u16 n = little_bytes 2 n

abbrev pub u32 : ℕ → List ℕ
u32 n = little_bytes 4 n

abbrev pub zeros : ℕ → List ℕ
zeros n = replicate n 0

-- the headers of a PE32 file of one section, which is loaded at 0x2000, begins at 344 with the CLI
-- header, and has the metadata at 416
abbrev pub headers_before : ℕ → List ℕ
headers_before meta_size =
    codes "MZ" ++ zeros 58 ++ u32 64
    ++ codes "PE" ++ zeros 2
    ++ u16 0x14C ++ u16 1 ++ zeros 12 ++ u16 216 ++ u16 0
    ++ u16 0x10B ++ zeros 90 ++ u32 16
    ++ zeros 112 ++ u32 0x2000 ++ u32 72
    ++ codes ".text" ++ zeros 3
    ++ u32 (72 + meta_size) ++ u32 0x2000 ++ u32 (72 + meta_size) ++ u32 344 ++ zeros 16
    ++ u32 72 ++ u16 2 ++ u16 5 ++ u32 0x2048 ++ u32 meta_size ++ u32 1 ++ zeros 52

-- a metadata root with a version of four bytes, up to the number of streams
abbrev pub root_before : ℕ → List ℕ
root_before streams =
    codes "BSJB" ++ u16 1 ++ u16 1 ++ zeros 4 ++ u32 4 ++ codes "v4" ++ zeros 2
    ++ u16 0 ++ u16 streams

-- a file without tables
abbrev pub empty_file : List ℕ
empty_file =
    headers_before 60 ++ root_before 1
    ++ u32 36 ++ u32 24 ++ codes "#~" ++ zeros 2
    ++ zeros 6 ++ 0 ∷ 1 ∷ [] ++ zeros 16

abbrev pub EmptyFile : Type 0
EmptyFile =
    assembly empty_file
    ≡ Ok (record {
      strings = [];
      user_strings = [];
      guids = [];
      blobs = [];
      layout = record { heap_sizes = 0; rows = replicate 45 0; starts = replicate 45 476 };
      tables = replicate 45 [];
    })

-- a file with the one row of Module, whose name `m` stands at 1 in `#Strings`
abbrev pub module_file : List ℕ
module_file =
    headers_before 100 ++ root_before 2
    ++ u32 56 ++ u32 40 ++ codes "#~" ++ zeros 2
    ++ u32 96 ++ u32 4 ++ codes "#Strings" ++ zeros 4
    ++ zeros 6 ++ 0 ∷ 1 ∷ [] ++ 1 ∷ [] ++ zeros 15 ++ u32 1
    ++ u16 0 ++ u16 1 ++ u16 0 ++ u16 0 ++ u16 0 ++ zeros 2
    ++ 0 ∷ [] ++ codes "m" ++ zeros 2

abbrev pub ModuleFile : Type 0
ModuleFile =
    assembly module_file
    ≡ Ok (record {
      strings = 0 ∷ 0x6D ∷ 0 ∷ 0 ∷ [];
      user_strings = [];
      guids = [];
      blobs = [];
      layout = record {
        heap_sizes = 0;
        rows = 1 ∷ replicate 44 0;
        starts = 500 ∷ replicate 44 510;
      };
      tables = ((0 ∷ 1 ∷ 0 ∷ 0 ∷ 0 ∷ 0 ∷ 0 ∷ 0 ∷ 0 ∷ []) ∷ []) ∷ replicate 44 [];
    })

-- the same file where the name's offset is the heap's length: the cell at 502 is wrong
abbrev pub wrong_name_file : List ℕ
wrong_name_file =
    headers_before 100 ++ root_before 2
    ++ u32 56 ++ u32 40 ++ codes "#~" ++ zeros 2
    ++ u32 96 ++ u32 4 ++ codes "#Strings" ++ zeros 4
    ++ zeros 6 ++ 0 ∷ 1 ∷ [] ++ 1 ∷ [] ++ zeros 15 ++ u32 1
    ++ u16 0 ++ u16 4 ++ u16 0 ++ u16 0 ++ u16 0 ++ zeros 2
    ++ 0 ∷ [] ++ codes "m" ++ zeros 2

abbrev pub WrongNameFile : Type 0
WrongNameFile = assembly wrong_name_file ≡ Err (parts.cell, 502)
