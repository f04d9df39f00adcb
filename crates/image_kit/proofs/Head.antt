-- The headers of a written library, as they are read.
use Rattle.std.proofs.Common.{◌≡◌, ℕ, ◌+◌, ◌-◌, ◌*◌, ◌^◌, ◌<◌, ◌≤◌, Bool, true, false, List, [], ◌∷◌, ◌++◌, length, Ok, refl, sym, ap, ◌∙◌, subst, arith}
use Rattle.std.specs.Prelude.{nat_le, nat_lt, ◌==◌, bit_and, map, min}
use Rattle.byteorder.specs.Numbers.{little_number-reads_back}
use Rattle.std.specs.List.{range_with_len}
use Rattle.std.proofs.lemmas.Bool.{le-leb, lt-ltb}
use Rattle.byte_view.specs.Numbers.{le}
use Rattle.byte_view.specs.Reading.{field, field_where, each}
use Rattle.byte_view.specs.ElfParts as parts
use Rattle.byte_view.specs.ElfLoads.{Load, identified, program_headers, load_at, and_load, loads, without_tls}
use Rattle.byte_view.specs.ElfDynamic.{Entry, entry_at, dynamic_among, dynamic_header, entry_count, entries, check_entry, check_entries, dynamic_table}
use Rattle.byte_view.proofs.Reading.{bind_read}
use Rattle.image_kit.specs.LibraryFile.{u16, u32, u64, ident, file_kind, header_sizes, elf_header, program_header, program_header_table, dynamic_section}
use Rattle.image_kit.proofs.Stands.{Stands, stands_front, stands_back, le_inside}

-- a field that is read
field_reads : (part : ℕ) (bytes : List ℕ) (at n x : ℕ) → at + n ≤ length bytes → le bytes at n ≡ x → field part bytes at n ≡ Ok x
field_reads part bytes at n x h e = rw (le-leb (at + n) (length bytes) h, e) refl

-- a field that is read and passes its test
field_where_reads : (passes : ℕ → Bool) (part : ℕ) (bytes : List ℕ) (at n x : ℕ) → at + n ≤ length bytes → le bytes at n ≡ x → passes x ≡ true → field_where passes part bytes at n ≡ Ok x
field_where_reads passes part bytes at n x h e p =
    bind_read (field part bytes at n) _ x (field_reads part bytes at n x h e) ∙ (rw p refl)

pub length-elf_header : length elf_header ≡ 64
unfolding elf_header ident file_kind header_sizes u16 u32 u64
length-elf_header = refl

length-program_header : (type flags place size align : ℕ) → length (program_header type flags place size align) ≡ 56
unfolding program_header u32 u64
length-program_header type flags place size align = refl

pub length-program_header_table : (size : ℕ) → length (program_header_table size) ≡ 112
unfolding program_header_table program_header u32 u64
length-program_header_table size = refl

pub length-dynamic_section : (hash strings strings_size : ℕ) → length (dynamic_section hash strings strings_size) ≡ 208
unfolding dynamic_section u64
length-dynamic_section hash strings strings_size = refl

-- the numbers of the ELF header
pub record HeaderNumbers (bytes : List ℕ) : Type 0 where
  pub magic : le bytes 0 4 ≡ 0x464C457F
  pub class : le bytes 4 1 ≡ 2
  pub order : le bytes 5 1 ≡ 1
  pub version : le bytes 6 1 ≡ 1
  pub kind : le bytes 16 2 ≡ 3
  pub machine : le bytes 18 2 ≡ 243
  pub flags : le bytes 48 4 ≡ 0
  pub start : le bytes 32 8 ≡ 64
  pub size : le bytes 54 2 ≡ 56
  pub count : le bytes 56 2 ≡ 2

header_numbers_of : (rest : List ℕ) → HeaderNumbers (elf_header ++ rest)
unfolding elf_header ident file_kind header_sizes u16 u32 u64 le
header_numbers_of rest = record {
  magic = refl;
  class = refl;
  order = refl;
  version = refl;
  kind = refl;
  machine = refl;
  flags = refl;
  start = refl;
  size = refl;
  count = refl;
}

header_numbers : (bytes : List ℕ) → Stands bytes 0 elf_header → HeaderNumbers bytes
header_numbers bytes s =
    let same : elf_header ++ s.rest ≡ bytes = sym s.from in
    subst HeaderNumbers same (header_numbers_of s.rest)

pub identified_reads : (bytes : List ℕ) → Stands bytes 0 elf_header → 64 ≤ length bytes → identified bytes ≡ Ok 0
unfolding identified
identified_reads bytes s h =
    let n = header_numbers bytes s in
    bind_read _ _ _ (field_where_reads (λ magic. magic == 0x464C457F) parts.ident bytes 0 4 0x464C457F (omega arith) n.magic refl)
    ∙ bind_read _ _ _ (field_where_reads (λ class. class == 2) parts.ident bytes 4 1 2 (omega arith) n.class refl)
    ∙ bind_read _ _ _ (field_where_reads (λ order. order == 1) parts.ident bytes 5 1 1 (omega arith) n.order refl)
    ∙ bind_read _ _ _ (field_where_reads (λ version. version == 1) parts.ident bytes 6 1 1 (omega arith) n.version refl)
    ∙ bind_read _ _ _ (field_where_reads (λ kind. kind == 3) parts.file_type bytes 16 2 3 (omega arith) n.kind refl)
    ∙ bind_read _ _ _ (field_where_reads (λ machine. machine == 243) parts.machine bytes 18 2 243 (omega arith) n.machine refl)
    ∙ field_where_reads (λ flags. bit_and flags 9 == 0) parts.flags bytes 48 4 0 (omega arith) n.flags refl

pub headers_read : (bytes : List ℕ) → Stands bytes 0 elf_header → 176 ≤ length bytes → program_headers bytes ≡ Ok (64, 2)
unfolding program_headers
headers_read bytes s h =
    let n = header_numbers bytes s in
    let within : nat_le 176 (length bytes) ≡ true = le-leb 176 (length bytes) h in
    bind_read _ _ _ (field_where_reads (λ size. size == 56) parts.program_headers bytes 54 2 56 (omega arith) n.size refl)
    ∙ bind_read _ _ _ (field_reads parts.program_headers bytes 56 2 2 (omega arith) n.count)
    ∙ (rw (n.start, within) refl)

-- the numbers of one program header
pub record ProgramNumbers (bytes : List ℕ) (at type flags place size : ℕ) : Type 0 where
  pub type_is : le bytes at 4 ≡ type
  pub flags_is : le bytes (at + 4) 4 ≡ flags
  pub offset_is : le bytes (at + 8) 8 ≡ place
  pub vaddr_is : le bytes (at + 16) 8 ≡ place
  pub file_size_is : le bytes (at + 32) 8 ≡ size
  pub size_is : le bytes (at + 40) 8 ≡ size

program_numbers : (bytes : List ℕ) (at type flags place size align : ℕ) → Stands bytes at (program_header type flags place size align) → type < 2 ^ 32 → flags < 2 ^ 32 → place < 2 ^ 64 → size < 2 ^ 64 → ProgramNumbers bytes at type flags place size
unfolding program_header u32 u64 le
program_numbers bytes at type flags place size align s t f p z =
    let piece : List ℕ = program_header type flags place size align in
    record {
      type_is = le_inside bytes at 0 at 4 piece s (omega arith) ∙ little_number-reads_back 4 type [] t;
      flags_is = le_inside bytes at 4 (at + 4) 4 piece s refl ∙ little_number-reads_back 4 flags [] f;
      offset_is = le_inside bytes at 8 (at + 8) 8 piece s refl ∙ little_number-reads_back 8 place [] p;
      vaddr_is = le_inside bytes at 16 (at + 16) 8 piece s refl ∙ little_number-reads_back 8 place [] p;
      file_size_is = le_inside bytes at 32 (at + 32) 8 piece s refl ∙ little_number-reads_back 8 size [] z;
      size_is = le_inside bytes at 40 (at + 40) 8 piece s refl ∙ little_number-reads_back 8 size [] z;
    }

-- both program headers
pub record Programs (bytes : List ℕ) (size : ℕ) : Type 0 where
  pub load : ProgramNumbers bytes 64 1 5 0 size
  pub dynamic : ProgramNumbers bytes 120 2 4 176 208

pub programs : (bytes : List ℕ) (size : ℕ) → Stands bytes 64 (program_header_table size) → size < 2 ^ 64 → Programs bytes size
unfolding program_header_table
programs bytes size s h =
    let load : List ℕ = program_header 1 5 0 size 4096 in
    let dynamic : List ℕ = program_header 2 4 176 208 8 in
    record {
      load = program_numbers bytes 64 1 5 0 size 4096 (stands_front bytes 64 load dynamic s) (omega arith) (omega arith) (omega arith) h;
      dynamic = program_numbers bytes 120 2 4 176 208 8 (stands_back bytes 64 120 load dynamic s (ap (λ n. 64 + n) (length-program_header 1 5 0 size 4096))) (omega arith) (omega arith) (omega arith) (omega arith);
    }

-- the load of a whole file, readable and executable
abbrev pub one_load : ℕ → Load
one_load size = record {
  at = 64;
  file_at = 0;
  file_size = size;
  vaddr = 0;
  size = size;
  readable = true;
  writable = false;
  executable = true;
}

load_reads : (bytes : List ℕ) (size : ℕ) → ProgramNumbers bytes 64 1 5 0 size → length bytes ≡ size → size < 2 ^ 32 → load_at bytes 0 64 ≡ Ok (one_load size)
unfolding load_at
load_reads bytes size n long h =
    let offset : le bytes 72 8 ≡ 0 = n.offset_is in
    let vaddr : le bytes 80 8 ≡ 0 = n.vaddr_is in
    let file_size : le bytes 96 8 ≡ size = n.file_size_is in
    let memory_size : le bytes 104 8 ≡ size = n.size_is in
    let flags : le bytes 68 4 ≡ 5 = n.flags_is in
    let in_file : nat_le (0 + size) (length bytes) ≡ true = le-leb (0 + size) (length bytes) (omega arith) in
    let as_large : nat_le size size ≡ true = le-leb size size (omega arith) in
    let low : nat_lt (0 + size) (2 ^ 32) ≡ true = lt-ltb (0 + size) (2 ^ 32) (omega arith) in
    rw (offset, vaddr, file_size, memory_size, flags, in_file, as_large, low) refl

pub loads_read : (bytes : List ℕ) (size : ℕ) → Programs bytes size → length bytes ≡ size → size < 2 ^ 32 → loads bytes 64 2 ≡ Ok (one_load size ∷ [])
unfolding loads and_load
loads_read bytes size n long h =
    let first : le bytes 64 4 ≡ 1 = n.load.type_is in
    let second : le bytes 120 4 ≡ 2 = n.dynamic.type_is in
    let load : load_at bytes 0 64 ≡ Ok (one_load size) = load_reads bytes size n.load long h in
    rw (first, load, second) refl

pub without_tls_reads : (bytes : List ℕ) (size : ℕ) → Programs bytes size → without_tls bytes 64 2 ≡ Ok 0
unfolding each
without_tls_reads bytes size n =
    let first : le bytes 64 4 ≡ 1 = n.load.type_is in
    let second : le bytes 120 4 ≡ 2 = n.dynamic.type_is in
    rw (first, second) refl

pub dynamic_header_reads : (bytes : List ℕ) (size : ℕ) → Programs bytes size → dynamic_header bytes 64 2 ≡ Ok 120
unfolding dynamic_header dynamic_among
dynamic_header_reads bytes size n =
    let first : le bytes 64 4 ≡ 1 = n.load.type_is in
    let second : le bytes 120 4 ≡ 2 = n.dynamic.type_is in
    rw (first, second) refl

-- the entries of the dynamic section before DT_NULL
abbrev pub written_entries : ℕ → ℕ → ℕ → List Entry
written_entries hash strings strings_size =
    (record { at = 176; tag = 4; value = hash })
    ∷ (record { at = 192; tag = 5; value = strings })
    ∷ (record { at = 208; tag = 6; value = 384 })
    ∷ (record { at = 224; tag = 10; value = strings_size })
    ∷ (record { at = 240; tag = 11; value = 24 })
    ∷ []

pub record EntryNumbers (bytes : List ℕ) (hash strings strings_size : ℕ) : Type 0 where
  pub hash_tag : le bytes 176 8 ≡ 4
  pub hash_value : le bytes 184 8 ≡ hash
  pub strings_tag : le bytes 192 8 ≡ 5
  pub strings_value : le bytes 200 8 ≡ strings
  pub symbols_tag : le bytes 208 8 ≡ 6
  pub symbols_value : le bytes 216 8 ≡ 384
  pub size_tag : le bytes 224 8 ≡ 10
  pub size_value : le bytes 232 8 ≡ strings_size
  pub entry_tag : le bytes 240 8 ≡ 11
  pub entry_value : le bytes 248 8 ≡ 24
  pub end_tag : le bytes 256 8 ≡ 0

entry_numbers : (bytes : List ℕ) (hash strings strings_size : ℕ) → Stands bytes 176 (dynamic_section hash strings strings_size) → hash < 2 ^ 64 → strings < 2 ^ 64 → strings_size < 2 ^ 64 → EntryNumbers bytes hash strings strings_size
unfolding dynamic_section u64 le
entry_numbers bytes hash strings strings_size s h t z =
    let piece : List ℕ = dynamic_section hash strings strings_size in
    record {
      hash_tag = le_inside bytes 176 0 176 8 piece s refl;
      hash_value = le_inside bytes 176 8 184 8 piece s refl ∙ little_number-reads_back 8 hash [] h;
      strings_tag = le_inside bytes 176 16 192 8 piece s refl;
      strings_value = le_inside bytes 176 24 200 8 piece s refl ∙ little_number-reads_back 8 strings [] t;
      symbols_tag = le_inside bytes 176 32 208 8 piece s refl;
      symbols_value = le_inside bytes 176 40 216 8 piece s refl;
      size_tag = le_inside bytes 176 48 224 8 piece s refl;
      size_value = le_inside bytes 176 56 232 8 piece s refl ∙ little_number-reads_back 8 strings_size [] z;
      entry_tag = le_inside bytes 176 64 240 8 piece s refl;
      entry_value = le_inside bytes 176 72 248 8 piece s refl;
      end_tag = le_inside bytes 176 80 256 8 piece s refl;
    }

-- the entries from the end on
abbrev later_entries : List ℕ → List Entry
later_entries bytes = map (λ k. entry_at bytes (176 + 16 * k)) (range_with_len 5 8)

entries_read : (bytes : List ℕ) (size hash strings strings_size : ℕ) → Programs bytes size → EntryNumbers bytes hash strings strings_size → 384 ≤ length bytes → entries bytes 120 ≡ written_entries hash strings strings_size ++ later_entries bytes
unfolding entries entry_count
entries_read bytes size hash strings strings_size n e long =
    let place : le bytes 128 8 ≡ 176 = n.dynamic.offset_is in
    let file_size : le bytes 152 8 ≡ 208 = n.dynamic.file_size_is in
    let whole : min 208 (length bytes - 176) ≡ 208 = omega arith in
    rw (place, file_size, whole, e.hash_tag, e.hash_value, e.strings_tag, e.strings_value, e.symbols_tag, e.symbols_value, e.size_tag, e.size_value, e.entry_tag, e.entry_value) refl

pub dynamic_table_reads : (bytes : List ℕ) (size hash strings strings_size : ℕ) → Programs bytes size → Stands bytes 176 (dynamic_section hash strings strings_size) → 384 ≤ length bytes → hash < 2 ^ 64 → strings < 2 ^ 64 → strings_size < 2 ^ 64 → dynamic_table bytes 120 ≡ Ok (written_entries hash strings strings_size)
unfolding dynamic_table check_entries check_entry
dynamic_table_reads bytes size hash strings strings_size n s long h t z =
    let e = entry_numbers bytes hash strings strings_size s h t z in
    let all : entries bytes 120 ≡ written_entries hash strings strings_size ++ later_entries bytes = entries_read bytes size hash strings strings_size n e long in
    rw (all, e.end_tag) refl
