-- The headers of a PE image up to the CLI header's metadata range (ECMA-335 II.25).
use Rattle.std.specs.Prelude.{ℕ, ◌+◌, ◌-◌, ◌*◌, Bool, ◌&&◌, ◌||◌, not, ◌==◌, nat_le, min, List, length, take, drop, slice_range, find, Option, option_map, Result, Ok, Err, bit_and, if◌then◌else◌}
use Rattle.std.specs.Option.{ok_or}
use Rattle.byte_view.specs.Numbers.{le}
use Rattle.byte_view.specs.Reading.{Broken, ◌>>=◌, must, field, field_where, listed}
use Rattle.byte_view.specs.Parts as parts

-- a section: the address at which it is loaded, and where its raw data lies in the file (II.25.3)
pub record Section : Type 0 where
  pub rva : ℕ
  pub raw_at : ℕ
  pub raw_size : ℕ

-- what the headers tell: where the metadata lies in the file, the entry point's token, the place of
-- the CLI header
pub record Headers : Type 0 where
  pub meta_at : ℕ
  pub meta_size : ℕ
  pub entry : ℕ
  pub cli_at : ℕ
  pub sections : List Section

-- where the PE signature stands: the number at 60 of the MS-DOS header, which begins with `MZ`
-- (II.25.2.1)
unfoldable pub signature_place : List ℕ → Result ℕ Broken
signature_place bytes = do
  _ ← field_where (λ magic. magic == 0x5A4D) parts.mz bytes 0 2
  p ← field parts.pe_offset bytes 60 4
  _ ← field_where (λ signature. signature == 0x4550) parts.pe_signature bytes p 4
  Ok p

-- the number of sections, and where their headers begin, after the optional header (II.25.2.2)
unfoldable pub section_table : List ℕ → ℕ → Result (ℕ × ℕ) Broken
section_table bytes p = do
  _ ← must (nat_le (p + 24) (length bytes)) (parts.coff_header, p + 4)
  Ok (le bytes (p + 6) 2, p + 24 + le bytes (p + 20) 2)

-- where the optional header has the number of its data directories: at 92 in a PE32 file, at 108 in
-- a PE32+ file (II.25.2.3)
unfoldable pub directory_count_place : List ℕ → ℕ → Result ℕ Broken
directory_count_place bytes optional = do
  magic ←
      field_where (λ magic. magic == 0x10B || magic == 0x20B) parts.optional_header bytes optional 2
  Ok (optional + (if magic == 0x10B then 92 else 108))

-- where the CLI header's data directory stands, the fifteenth of 8 bytes each (II.25.2.3.3)
unfoldable pub cli_directory : List ℕ → ℕ → Result ℕ Broken
cli_directory bytes count_at = do
  _ ← field_where (λ count. nat_le 15 count) parts.directories bytes count_at 4
  let at : ℕ = count_at + 116
  _ ← must (nat_le (at + 8) (length bytes) && not (le bytes at 4 == 0)) (parts.directories, at)
  Ok at

-- one section header of 40 bytes
abbrev pub section_at : List ℕ → ℕ → Result Section Broken
section_at bytes at =
    if nat_le (at + 40) (length bytes)
    then Ok (record {
      rva = le bytes (at + 12) 4;
      raw_at = le bytes (at + 20) 4;
      raw_size = le bytes (at + 16) 4;
    })
    else Err (parts.sections, at)

-- the sections: at most 96, one header after another
unfoldable pub sections_of : List ℕ → ℕ → ℕ → ℕ → Result (List Section) Broken
sections_of bytes p count at = do
  _ ← must (nat_le count 96) (parts.sections, p + 6)
  listed (λ k. section_at bytes (at + 40 * k)) count

-- a section whose raw data, in a file of this size, holds the range of addresses
unfoldable pub holds_range : ℕ → ℕ → ℕ → Section → Bool
holds_range size rva len section =
    nat_le section.rva rva && nat_le (rva - section.rva + len) section.raw_size
    && nat_le (section.raw_at + (rva - section.rva) + len) size

-- where an address lies in the file, by its section
abbrev pub raw_place : ℕ → Section → ℕ
raw_place rva section = section.raw_at + (rva - section.rva)

-- where a range of addresses lies in a file of this size: in the first section that holds it
unfoldable pub file_place : List Section → ℕ → ℕ → ℕ → Option ℕ
file_place sections size rva len =
    option_map (raw_place rva) (find (holds_range size rva len) sections)

-- the bytes at a range of addresses
abbrev pub bytes_at : List ℕ → List Section → ℕ → ℕ → Option (List ℕ)
bytes_at bytes sections rva len =
    option_map (λ at. take len (drop at bytes)) (file_place sections (length bytes) rva len)

-- the raw bytes from an address to the end of its section's data in the file
abbrev pub bytes_from : List ℕ → List Section → ℕ → Option (List ℕ)
bytes_from bytes sections rva =
    option_map (λ section.
    slice_range bytes (raw_place rva section)
    (min (section.raw_at + section.raw_size) (length bytes)))
    (find (holds_range (length bytes) rva 1) sections)

-- where the CLI header of 72 bytes lies; its flags say IL only, and no native entry point
-- (II.25.3.3)
unfoldable pub cli_header_place : List ℕ → List Section → ℕ → Result ℕ Broken
cli_header_place bytes sections directory = do
  at ←
      ok_or (file_place sections (length bytes) (le bytes directory 4) 72)
      (parts.cli_header, directory)
  _ ← must (bit_and (le bytes (at + 16) 4) 0x11 == 0x01) (parts.cli_flags, at + 16)
  Ok at

-- where the metadata lies, by the directory at 8 of the CLI header
unfoldable pub metadata_place : List ℕ → List Section → ℕ → Result ℕ Broken
metadata_place bytes sections cli_at =
    ok_or (file_place sections (length bytes) (le bytes (cli_at + 8) 4) (le bytes (cli_at + 12) 4))
    (parts.metadata_root, cli_at + 8)

-- The headers before those of the sections: where the PE signature stands, how many section headers
-- there are and where they begin, and where the directory of the CLI header stands.
pub record Front : Type 0 where
  pub signature : ℕ
  pub count : ℕ
  pub table : ℕ
  pub directory : ℕ

unfoldable pub front : List ℕ → Result Front Broken
front bytes = do
  p ← signature_place bytes
  table ← section_table bytes p
  count_at ← directory_count_place bytes (p + 24)
  directory ← cli_directory bytes count_at
  Ok (record { signature = p; count = table.0; table = table.1; directory = directory })

-- the headers of an image, part after part
unfoldable pub headers : List ℕ → Result Headers Broken
headers bytes = do
  front ← front bytes
  sections ← sections_of bytes front.signature front.count front.table
  cli_at ← cli_header_place bytes sections front.directory
  meta_at ← metadata_place bytes sections cli_at
  Ok (record {
    meta_at = meta_at;
    meta_size = le bytes (cli_at + 12) 4;
    entry = le bytes (cli_at + 20) 4;
    cli_at = cli_at;
    sections = sections;
  })
