-- The file of an assembly, from its plan: the headers of a PE32 file with one section, and in it the
-- CLI header, the methods' bodies and the metadata (ECMA-335 II.24 and II.25).
use Rattle.std.specs.Prelude.{ℕ, zero, suc, ◌+◌, ◌-◌, ◌%◌, ◌==◌, nat_lt, List, [], ◌∷◌, ◌++◌, length, map, codes, replicate, find, flat_map, slice_index, slice_index_or, slice_set, Option, Some, None, unwrap_or, if◌then◌else◌}
use Rattle.std.specs.List.{range_with_len, sum_by}
use Rattle.byteorder.specs.Endian.{little_bytes}
use Rattle.byte_view.specs.Columns.{is_table, table_numbers}
use Rattle.byte_view.specs.TableNames.{method_def}
use Rattle.byte_view.specs.Layout.{table_start}
use Rattle.meta_tables.specs.Shapes.{cell_widths}
use Rattle.image_kit.specs.declared.assembly_plan.TablePlan.{TablePlan}
use Rattle.image_kit.specs.declared.assembly_plan.MethodBody.{MethodBody}
use Rattle.image_kit.specs.declared.assembly_plan.AssemblyPlan.{AssemblyPlan}
use Rattle.image_kit.specs.LibraryFile.{u16, u32, u64}

-- the pieces 0 to n - 1, one after another
unfoldable pub pieces : (ℕ → List ℕ) → ℕ → List ℕ
pieces piece zero = []
pieces piece (suc n) = pieces piece n ++ piece n

-- how many bytes there are from a size to the next multiple of a unit
abbrev pub padding : ℕ → ℕ → ℕ
padding unit size = (unit - size % unit) % unit

-- a size, up to a multiple of a unit
abbrev pub rounded : ℕ → ℕ → ℕ
rounded unit size = size + padding unit size

abbrev pub zeros : ℕ → List ℕ
zeros n = replicate n 0

-- bytes, and zeros up to a multiple of four
abbrev pub padded : List ℕ → List ℕ
padded bytes = bytes ++ zeros (padding 4 (length bytes))

abbrev pub padded_size : List ℕ → ℕ
padded_size bytes = rounded 4 (length bytes)

-- ---- the rows of a plan

abbrev pub rows_if : Option TablePlan → List (List ℕ)
rows_if None = []
rows_if (Some table) = table.rows

-- the rows of the table of a number; none where the plan doesn't give it
unfoldable pub rows_among : List TablePlan → ℕ → List (List ℕ)
rows_among tables table = rows_if (find (λ planned. planned.number == table) tables)

abbrev pub row_count : AssemblyPlan → ℕ → ℕ
row_count plan table = length (rows_among plan.tables table)

-- the row count of each table by its number
abbrev pub counts_among : List TablePlan → List ℕ
counts_among tables =
    map (λ table. length (rows_among tables table)) (range_with_len 0 table_numbers)

abbrev pub row_counts : AssemblyPlan → List ℕ
row_counts plan = counts_among plan.tables

-- a row of the plan, counted from 0
abbrev pub planned_row : AssemblyPlan → ℕ → ℕ → List ℕ
planned_row plan table row = slice_index_or (rows_among plan.tables table) row []

-- an index in `#Strings` (1) and in `#Blob` (4) has four bytes where the heap has 2^16 bytes or more
abbrev pub heap_sizes : AssemblyPlan → ℕ
heap_sizes plan =
    (if nat_lt (length plan.strings) 65536 then 0 else 1)
    + (if nat_lt (length plan.blobs) 65536 then 0 else 4)

-- the widths of a table's nine columns, 0 for those that it doesn't have
abbrev pub widths : AssemblyPlan → ℕ → List ℕ
widths plan table = cell_widths (heap_sizes plan) (row_counts plan) table

-- ---- bodies

-- the address of the section, and the place of its raw data in the file
abbrev pub section_rva : ℕ
section_rva = 0x2000

abbrev pub section_place : ℕ
section_place = 512

-- the bodies begin after the CLI header of 72 bytes
abbrev pub bodies_rva : ℕ
bodies_rva = 0x2048

-- the address of a method's body, by the method's row of MethodDef, from 1; the first body begins
-- at an address, and each at a multiple of four
unfoldable pub body_rva : ℕ → List MethodBody → ℕ → Option ℕ
body_rva at [] method = None
body_rva at (body ∷ more) method =
    if body.method == method then Some at else body_rva (at + padded_size body.bytes) more method

unfoldable pub bodies_bytes : List MethodBody → List ℕ
bodies_bytes bodies = flat_map (λ body. padded body.bytes) bodies

abbrev pub bodies_size : List MethodBody → ℕ
bodies_size bodies = sum_by (λ body. padded_size body.bytes) bodies

-- A row as it is written, counted from 0: the plan's, with the address of its body in a method that
-- has one.
unfoldable pub written_row : AssemblyPlan → ℕ → ℕ → List ℕ
written_row plan table row =
    let cells : List ℕ = planned_row plan table row in
    if table == method_def
    then slice_set cells 0
    (unwrap_or (body_rva bodies_rva plan.bodies (row + 1)) (slice_index cells 0))
    else cells

-- ---- the stream of the tables (II.24.2.6)

-- the numbers of a row, in cells of these widths
unfoldable pub row_bytes : List ℕ → List ℕ → List ℕ
row_bytes widths row =
    pieces (λ column. little_bytes (slice_index widths column) (slice_index row column)) 9

unfoldable pub table_bytes : AssemblyPlan → ℕ → List ℕ
table_bytes plan table =
    pieces (λ row. row_bytes (widths plan table) (written_row plan table row)) (row_count plan table)

-- each of the 38 tables is marked as there, also those without rows
abbrev pub valid : ℕ
valid = 0x1FFF3FB7FF57

-- the row count of a table, of those of all tables
abbrev pub count_bytes : List ℕ → ℕ → List ℕ
count_bytes rows table = if is_table table then u32 (slice_index rows table) else []

-- the header, the row counts and the tables; none is said to be sorted
unfoldable pub tables_header : ℕ → List ℕ
tables_header heap_sizes = u32 0 ++ 2 ∷ 0 ∷ heap_sizes ∷ 1 ∷ [] ++ u64 valid ++ u64 0

unfoldable pub tables_stream : AssemblyPlan → List ℕ
tables_stream plan =
    tables_header (heap_sizes plan) ++ pieces (count_bytes (row_counts plan)) table_numbers
    ++ pieces (table_bytes plan) table_numbers

abbrev pub tables_size : AssemblyPlan → ℕ
tables_size plan = table_start 0 valid (heap_sizes plan) (row_counts plan) table_numbers

-- ---- the metadata (II.24.2.1 and II.24.2.2)

-- the version's text, and five streams
unfoldable pub metadata_root : List ℕ
metadata_root =
    codes "BSJB" ++ u16 1 ++ u16 1 ++ u32 0 ++ u32 12 ++ codes "v4.0.30319" ++ zeros 2 ++ u16 0
    ++ u16 5

-- a stream by its place in the metadata, its size and its name with zeros up to a multiple of four
unfoldable pub stream_header : ℕ → ℕ → List ℕ → List ℕ
stream_header offset size name = u32 offset ++ u32 size ++ name

-- the streams stand in this order after the root and their headers, each at a multiple of four
abbrev pub tables_offset : ℕ
tables_offset = 108

abbrev pub strings_offset : AssemblyPlan → ℕ
strings_offset plan = tables_offset + rounded 4 (tables_size plan)

abbrev pub user_offset : AssemblyPlan → ℕ
user_offset plan = strings_offset plan + padded_size plan.strings

abbrev pub guids_offset : AssemblyPlan → ℕ
guids_offset plan = user_offset plan + padded_size plan.user

abbrev pub blobs_offset : AssemblyPlan → ℕ
blobs_offset plan = guids_offset plan + 16

abbrev pub metadata_size : AssemblyPlan → ℕ
metadata_size plan = blobs_offset plan + padded_size plan.blobs

unfoldable pub stream_headers : AssemblyPlan → List ℕ
stream_headers plan =
    stream_header tables_offset (tables_size plan) (codes "#~" ++ zeros 2)
    ++ stream_header (strings_offset plan) (length plan.strings) (codes "#Strings" ++ zeros 4)
    ++ stream_header (user_offset plan) (length plan.user) (codes "#US" ++ zeros 1)
    ++ stream_header (guids_offset plan) 16 (codes "#GUID" ++ zeros 3)
    ++ stream_header (blobs_offset plan) (length plan.blobs) (codes "#Blob" ++ zeros 3)

-- the one GUID, of zeros
abbrev pub guids : List ℕ
guids = zeros 16

-- the streams
unfoldable pub heaps_bytes : AssemblyPlan → List ℕ
heaps_bytes plan = padded plan.strings ++ padded plan.user ++ guids ++ padded plan.blobs

-- ---- the headers (II.25)

-- where the metadata begins in the file
abbrev pub metadata_place : AssemblyPlan → ℕ
metadata_place plan = section_place + 72 + bodies_size plan.bodies

abbrev pub section_size : AssemblyPlan → ℕ
section_size plan = 72 + bodies_size plan.bodies + metadata_size plan

-- the size of the section's raw data, and of the file
abbrev pub raw_size : AssemblyPlan → ℕ
raw_size plan = rounded 512 (section_size plan)

abbrev pub assembly_end : AssemblyPlan → ℕ
assembly_end plan = section_place + raw_size plan

-- the front of the MS-DOS header
unfoldable pub dos_front : List ℕ
dos_front =
    0x4D ∷ 0x5A ∷ 0x90 ∷ 0 ∷ 3 ∷ 0 ∷ 0 ∷ 0 ∷ 4 ∷ 0 ∷ 0 ∷ 0 ∷ 0xFF ∷ 0xFF ∷ 0 ∷ 0
    ∷ 0xB8 ∷ 0 ∷ 0 ∷ 0 ∷ 0 ∷ 0 ∷ 0 ∷ 0 ∷ 0x40 ∷ 0 ∷ 0 ∷ 0 ∷ zeros 32

-- the line that a file prints under MS-DOS, with its end
abbrev pub dos_line : List ℕ
dos_line = codes "This program cannot be run in DOS mode." ++ 13 ∷ 13 ∷ 10 ∷ 0x24 ∷ []

-- the program that prints it
unfoldable pub dos_program : List ℕ
dos_program =
    (0x0E ∷ 0x1F ∷ 0xBA ∷ 0x0E ∷ 0 ∷ 0xB4 ∷ 9 ∷ 0xCD ∷ 0x21 ∷ 0xB8 ∷ 1 ∷ 0x4C ∷ 0xCD ∷ 0x21 ∷ [])
    ++ dos_line

-- the MS-DOS header; the PE signature stands at 128 (II.25.2.1)
unfoldable pub dos_header : List ℕ
dos_header = dos_front ++ u32 128 ++ dos_program ++ zeros 7

-- the signature, and the file header: for the Intel 386, one section, an optional header of 224
-- bytes, a 32-bit executable (II.25.2.2)
unfoldable pub coff_header : List ℕ
coff_header =
    codes "PE" ++ zeros 2 ++ u16 0x14C ++ u16 1 ++ zeros 12 ++ u16 224 ++ u16 0x102

-- The optional header of a PE32 file, with 16 data directories, of which the fifteenth names the CLI
-- header (II.25.2.3).
unfoldable pub standard_fields : ℕ → List ℕ
standard_fields size =
    u16 0x10B ++ 6 ∷ 0 ∷ [] ++ u32 size ++ u32 0 ++ u32 0 ++ u32 0 ++ u32 section_rva ++ u32 0

-- where the image is loaded, how its parts are aligned, and what versions it wants
unfoldable pub windows_versions : List ℕ
windows_versions =
    u32 0x400000 ++ u32 0x2000 ++ u32 0x200 ++ u16 5 ++ u16 0 ++ u32 0 ++ u16 5 ++ u16 0 ++ u32 0

-- how much of the stack and of the heap is reserved and committed
unfoldable pub stack_and_heap : List ℕ
stack_and_heap = u32 0x100000 ++ u32 0x1000 ++ u32 0x100000 ++ u32 0x1000

unfoldable pub windows_fields : ℕ → List ℕ
windows_fields size =
    windows_versions
    ++ u32 (section_rva + rounded 0x2000 size) ++ u32 0x200 ++ u32 0 ++ u16 3 ++ u16 0
    ++ stack_and_heap ++ u32 0 ++ u32 16

unfoldable pub directories : List ℕ
directories = zeros 112 ++ u32 section_rva ++ u32 72 ++ zeros 8

-- the section's header: code, to be executed and read (II.25.3)
unfoldable pub section_header : ℕ → ℕ → List ℕ
section_header size raw =
    codes ".text" ++ zeros 3 ++ u32 size ++ u32 section_rva ++ u32 raw ++ u32 section_place
    ++ zeros 12 ++ u32 0x60000020

-- the headers of a file whose section has a size, and zeros up to its raw data
unfoldable pub pe_headers : ℕ → ℕ → List ℕ
pe_headers size raw =
    dos_header ++ coff_header ++ standard_fields raw ++ windows_fields size ++ directories
    ++ section_header size raw ++ zeros 96

-- the CLI header: version 2.5, where the metadata is, IL only, and the entry point (II.25.3.3)
unfoldable pub cli_header : ℕ → ℕ → ℕ → List ℕ
cli_header rva size entry =
    u32 72 ++ u16 2 ++ u16 5 ++ u32 rva ++ u32 size ++ u32 1 ++ u32 entry ++ zeros 48

unfoldable pub metadata_bytes : AssemblyPlan → List ℕ
metadata_bytes plan =
    metadata_root ++ stream_headers plan ++ tables_stream plan
    ++ zeros (padding 4 (tables_size plan)) ++ heaps_bytes plan

unfoldable pub assembly_file : AssemblyPlan → List ℕ
assembly_file plan =
    pe_headers (section_size plan) (raw_size plan)
    ++ cli_header (bodies_rva + bodies_size plan.bodies) (metadata_size plan) plan.entry
    ++ bodies_bytes plan.bodies
    ++ metadata_bytes plan
    ++ zeros (padding 512 (section_size plan))
