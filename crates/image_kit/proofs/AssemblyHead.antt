-- The headers of a written assembly, as they are read.
use Rattle.std.proofs.Common.{◌≡◌, ℕ, ◌+◌, ◌-◌, ◌^◌, ◌<◌, ◌≤◌, true, List, [], ◌∷◌, ◌++◌, length, Some, Ok, refl, sym, ap, ◌∙◌, subst, arith}
use Rattle.std.specs.Prelude.{nat_le}
use Rattle.byteorder.specs.Numbers.{little_number-reads_back}
use Rattle.std.proofs.lemmas.Bool.{le-leb}
use Rattle.byte_view.specs.Numbers.{le}
use Rattle.byte_view.specs.Reading.{listed}
use Rattle.byte_view.specs.Headers.{Section, signature_place, section_table, directory_count_place, cli_directory, sections_of, holds_range, file_place, cli_header_place, metadata_place, front, headers}
use Rattle.image_kit.specs.LibraryFile.{u16, u32}
use Rattle.image_kit.specs.AssemblyFile.{dos_front, dos_program, dos_header, coff_header, standard_fields, windows_versions, stack_and_heap, windows_fields, directories, section_header, pe_headers, cli_header}
use Rattle.image_kit.proofs.Stands.{Stands, le_inside}

pub length-pe_headers : (size raw : ℕ) → length (pe_headers size raw) ≡ 512
unfolding pe_headers dos_header dos_front dos_program windows_versions stack_and_heap coff_header standard_fields windows_fields directories section_header u16 u32
length-pe_headers size raw = refl

pub length-cli_header : (rva size entry : ℕ) → length (cli_header rva size entry) ≡ 72
unfolding cli_header u16 u32
length-cli_header rva size entry = refl

-- the numbers of the headers
pub record PeNumbers (bytes : List ℕ) (raw : ℕ) : Type 0 where
  pub magic : le bytes 0 2 ≡ 0x5A4D
  pub place : le bytes 60 4 ≡ 128
  pub signature : le bytes 128 4 ≡ 0x4550
  pub count : le bytes 134 2 ≡ 1
  pub optional_size : le bytes 148 2 ≡ 224
  pub optional_magic : le bytes 152 2 ≡ 0x10B
  pub directory_count : le bytes 244 4 ≡ 16
  pub directory : le bytes 360 4 ≡ 0x2000
  pub rva : le bytes 388 4 ≡ 0x2000
  pub raw_size : le bytes 392 4 ≡ raw
  pub raw_at : le bytes 396 4 ≡ 512

pe_numbers_of : (size raw : ℕ) (rest : List ℕ) → raw < 2 ^ 32 → PeNumbers (pe_headers size raw ++ rest) raw
unfolding pe_headers dos_header dos_front dos_program windows_versions stack_and_heap coff_header standard_fields windows_fields directories section_header u16 u32 le
pe_numbers_of size raw rest h = record {
  magic = refl;
  place = refl;
  signature = refl;
  count = refl;
  optional_size = refl;
  optional_magic = refl;
  directory_count = refl;
  directory = refl;
  rva = refl;
  raw_size = little_number-reads_back 4 raw [] h;
  raw_at = refl;
}

pub pe_numbers : (bytes : List ℕ) (size raw : ℕ) → Stands bytes 0 (pe_headers size raw) → raw < 2 ^ 32 → PeNumbers bytes raw
pe_numbers bytes size raw s h = subst (λ (bytes : List ℕ). PeNumbers bytes raw) (sym s.from) (pe_numbers_of size raw s.rest h)

-- the numbers of the CLI header
pub record CliNumbers (bytes : List ℕ) (rva size entry : ℕ) : Type 0 where
  pub rva_is : le bytes 520 4 ≡ rva
  pub size_is : le bytes 524 4 ≡ size
  pub flags : le bytes 528 4 ≡ 1
  pub entry_is : le bytes 532 4 ≡ entry

pub cli_numbers : (bytes : List ℕ) (rva size entry : ℕ) → Stands bytes 512 (cli_header rva size entry) → rva < 2 ^ 32 → size < 2 ^ 32 → entry < 2 ^ 32 → CliNumbers bytes rva size entry
unfolding cli_header u16 u32 le
cli_numbers bytes rva size entry s r z e =
    let piece : List ℕ = cli_header rva size entry in
    record {
      rva_is = le_inside bytes 512 8 520 4 piece s refl ∙ little_number-reads_back 4 rva [] r;
      size_is = le_inside bytes 512 12 524 4 piece s refl ∙ little_number-reads_back 4 size [] z;
      flags = le_inside bytes 512 16 528 4 piece s refl;
      entry_is = le_inside bytes 512 20 532 4 piece s refl ∙ little_number-reads_back 4 entry [] e;
    }

-- the one section
abbrev pub one_section : ℕ → Section
one_section raw = record { rva = 0x2000; raw_at = 512; raw_size = raw }

-- a range of addresses in the section
pub place_reads : (raw size rva len : ℕ) → 0x2000 ≤ rva → rva - 0x2000 + len ≤ raw → 512 + raw ≤ size → file_place (one_section raw ∷ []) size rva len ≡ Some (512 + (rva - 0x2000))
unfolding file_place holds_range
place_reads raw size rva len low within there =
    let a : nat_le 0x2000 rva ≡ true = le-leb 0x2000 rva low in
    let b : nat_le (rva - 0x2000 + len) raw ≡ true = le-leb (rva - 0x2000 + len) raw within in
    let c : nat_le (512 + (rva - 0x2000) + len) size ≡ true = le-leb (512 + (rva - 0x2000) + len) size (omega arith) in
    rw (a, b, c) refl

front_reads : (bytes : List ℕ) (raw : ℕ) → PeNumbers bytes raw → 512 ≤ length bytes → front bytes ≡ Ok (record { signature = 128; count = 1; table = 376; directory = 360 })
unfolding front signature_place section_table directory_count_place cli_directory
front_reads bytes raw n h =
    let a : nat_le 2 (length bytes) ≡ true = le-leb 2 (length bytes) (omega arith) in
    let b : nat_le 64 (length bytes) ≡ true = le-leb 64 (length bytes) (omega arith) in
    let c : nat_le 132 (length bytes) ≡ true = le-leb 132 (length bytes) (omega arith) in
    let d : nat_le 152 (length bytes) ≡ true = le-leb 152 (length bytes) (omega arith) in
    let e : nat_le 154 (length bytes) ≡ true = le-leb 154 (length bytes) (omega arith) in
    let f : nat_le 248 (length bytes) ≡ true = le-leb 248 (length bytes) (omega arith) in
    let g : nat_le 368 (length bytes) ≡ true = le-leb 368 (length bytes) (omega arith) in
    simp (a, n.magic, b, n.place, c, n.signature, d, n.count, n.optional_size, e, n.optional_magic, f, n.directory_count, g, n.directory)

sections_read : (bytes : List ℕ) (raw : ℕ) → PeNumbers bytes raw → 512 ≤ length bytes → sections_of bytes 128 1 376 ≡ Ok (one_section raw ∷ [])
unfolding sections_of listed
sections_read bytes raw n h =
    let a : nat_le 416 (length bytes) ≡ true = le-leb 416 (length bytes) (omega arith) in
    rw (a, n.rva, n.raw_at, n.raw_size) refl

-- the headers, by the size of the raw data and of the file
pub headers_read : (bytes : List ℕ) (raw size entry at : ℕ) → PeNumbers bytes raw → CliNumbers bytes (at + 0x2000 - 512) size entry → 512 + raw ≤ length bytes → 584 ≤ at → at + size ≤ 512 + raw
    → headers bytes ≡ Ok (record {
      meta_at = at;
      meta_size = size;
      entry = entry;
      cli_at = 512;
      sections = one_section raw ∷ [];
    })
unfolding headers cli_header_place metadata_place
headers_read bytes raw size entry at n c there low within =
    let f = front_reads bytes raw n (omega arith) in
    let s = sections_read bytes raw n (omega arith) in
    let p : file_place (one_section raw ∷ []) (length bytes) 0x2000 72 ≡ Some 512 = place_reads raw (length bytes) 0x2000 72 (omega arith) (omega arith) there in
    let back : 512 + (at + 0x2000 - 512 - 0x2000) ≡ at = omega arith in
    let m : file_place (one_section raw ∷ []) (length bytes) (at + 0x2000 - 512) size ≡ Some at =
    place_reads raw (length bytes) (at + 0x2000 - 512) size (omega arith) (omega arith) there ∙ ap Some back in
    simp (f, s, n.directory, p, c.flags, c.rva_is, c.size_is, m, c.entry_is)
