-- The file of a library, from its plan: headers, a dynamic section, symbols, a hash table, code,
-- what follows the code, and the names (System V gABI, 'ELF Header', 'Program Header',
-- 'Dynamic Section', 'Symbol Table', 'Hash Table' and 'String Table'; RISC-V psABI, 'File
-- Header').
use Rattle.std.specs.Prelude.{ℕ, ◌+◌, ◌-◌, ◌*◌, ◌%◌, ◌^◌, List, [], ◌∷◌, ◌++◌, length, codes, replicate, flat_map, unwrap_or}
use Rattle.std.specs.List.{range_with_len, sum_by}
use Rattle.byteorder.specs.Endian.{little_bytes}
use Rattle.rv_decode.specs.declared.instr.Instr.{Instr}
use Rattle.rv_decode.specs.Encoding.{encoding}
use Rattle.rv_decode.specs.Lengths.{length_of}
use Rattle.image_kit.specs.declared.library_plan.NamedPlace.{NamedPlace}
use Rattle.image_kit.specs.declared.library_plan.LibraryPlan.{LibraryPlan}

unfoldable pub u16 : ℕ → List ℕ
u16 n = little_bytes 2 n

unfoldable pub u32 : ℕ → List ℕ
u32 n = little_bytes 4 n

unfoldable pub u64 : ℕ → List ℕ
u64 n = little_bytes 8 n

-- ELF, 64 bits, lowest byte first, version 1
unfoldable pub ident : List ℕ
ident = 0x7F ∷ codes "ELF" ++ 2 ∷ 1 ∷ 1 ∷ [] ++ replicate 9 0

-- a shared library for RISC-V, version 1, without an entry; its program headers stand at 64, and
-- there are no section headers
unfoldable pub file_kind : List ℕ
file_kind = u16 3 ++ u16 243 ++ u32 1 ++ u64 0 ++ u64 64 ++ u64 0

-- no flags; this header has 64 bytes, each of the two program headers 56, and each of no section
-- headers 64
unfoldable pub header_sizes : List ℕ
header_sizes = u32 0 ++ u16 64 ++ u16 56 ++ u16 2 ++ u16 64 ++ u16 0 ++ u16 0

unfoldable pub elf_header : List ℕ
elf_header = ident ++ file_kind ++ header_sizes

-- the dynamic section and its size: 5 entries, DT_NULL, and 7 spare ones
abbrev pub dynamic_offset : ℕ
dynamic_offset = 176

abbrev pub dynamic_size : ℕ
dynamic_size = 208

abbrev pub symbols_offset : ℕ
symbols_offset = 384

-- a program header of what stands at one place in the file and in memory, as large in both
unfoldable pub program_header : ℕ → ℕ → ℕ → ℕ → ℕ → List ℕ
program_header type flags place size align =
    u32 type ++ u32 flags ++ u64 place ++ u64 place ++ u64 place
    ++ u64 size ++ u64 size ++ u64 align

-- One load, of the whole file, readable (4) and executable (1), at address 0, so that each
-- address is a file offset; and the dynamic section, readable.
unfoldable pub program_header_table : ℕ → List ℕ
program_header_table size =
    program_header 1 5 0 size 4096 ++ program_header 2 4 dynamic_offset dynamic_size 8

abbrev pub entry : ℕ → ℕ → List ℕ
entry tag value = u64 tag ++ u64 value

-- DT_HASH, DT_STRTAB, DT_SYMTAB, DT_STRSZ and DT_SYMENT, and 8 entries of zeros, of which the
-- first is DT_NULL
unfoldable pub dynamic_section : ℕ → ℕ → ℕ → List ℕ
dynamic_section hash strings strings_size =
    entry 4 hash ++ entry 5 strings ++ entry 6 symbols_offset
    ++ entry 10 strings_size ++ entry 11 24 ++ replicate 128 0

-- the entry of a global (0x10) function (0x02) with a name, by its place among the strings, and
-- an address
unfoldable pub symbol_entry : ℕ → ℕ → List ℕ
symbol_entry name value = u32 name ++ 0x12 ∷ 0 ∷ [] ++ u16 1 ++ u64 value ++ u64 0

-- the entries of names, the first of which stands at a place among the strings; the sums of
-- code's address and offsets wrap
unfoldable pub symbol_entries : ℕ → ℕ → List NamedPlace → List ℕ
symbol_entries code name [] = []
symbol_entries code name (place ∷ more) =
    symbol_entry name ((code + place.offset) % 2 ^ 64)
    ++ symbol_entries code (name + length place.name + 1) more

-- entry 0 is empty, and string 0 too
unfoldable pub symbol_table : ℕ → List NamedPlace → List ℕ
symbol_table code names = replicate 24 0 ++ symbol_entries code 1 names

abbrev pub text : NamedPlace → List ℕ
text place = place.name ++ 0 ∷ []

unfoldable pub string_table : List NamedPlace → List ℕ
string_table names = 0 ∷ flat_map text names

-- A hash table for so many names: one bucket, a chain word for each symbol, number 0 included;
-- the bucket names the last symbol, and each chain word the symbol before, so that a search
-- finds all.
unfoldable pub hash_table : ℕ → List ℕ
hash_table count =
    u32 1 ++ u32 (count + 1) ++ u32 count
    ++ flat_map (λ k. u32 (k - 1)) (range_with_len 0 (count + 1))

abbrev pub word_of : Instr → ℕ
word_of instr = unwrap_or (encoding instr) 0

-- how many bytes an instruction takes
abbrev pub instruction_size : Instr → ℕ
instruction_size instr = length_of (word_of instr)

-- how many bytes the instructions of some code take
abbrev pub code_size : List Instr → ℕ
code_size code = sum_by instruction_size code

unfoldable pub code_bytes : List Instr → List ℕ
code_bytes code = flat_map (λ instr. u32 (word_of instr)) code

-- where the parts after the symbols stand, for so many names
abbrev pub hash_offset : ℕ → ℕ
hash_offset count = symbols_offset + 24 * (count + 1)

abbrev pub code_offset : ℕ → ℕ
code_offset count = hash_offset count + 4 * (count + 4)

abbrev pub bytes_offset : LibraryPlan → ℕ
bytes_offset plan = code_offset (length plan.names) + code_size plan.code

abbrev pub strings_offset : LibraryPlan → ℕ
strings_offset plan = bytes_offset plan + length plan.bytes

abbrev pub file_end : LibraryPlan → ℕ
file_end plan = strings_offset plan + length (string_table plan.names)

unfoldable pub library_file : LibraryPlan → List ℕ
library_file plan =
    elf_header
    ++ program_header_table (file_end plan)
    ++ dynamic_section (hash_offset (length plan.names)) (strings_offset plan)
    (length (string_table plan.names))
    ++ symbol_table (code_offset (length plan.names)) plan.names
    ++ hash_table (length plan.names)
    ++ code_bytes plan.code
    ++ plan.bytes
    ++ string_table plan.names
