-- When a plan of an assembly fits, and what its file is read as.
use Rattle.std.specs.Prelude.{◌<◌, ◌≡◌, ◌≤◌, ℕ, zero, suc, ◌+◌, ◌^◌, Bool, true, ◌&&◌, ◌==◌, nat_le, nat_lt, List, [], ◌∷◌, length, map, count_by, slice_index, slice_index_or, slice_get, IsTrue, Ok, Some, ◌-◌, ◌%◌, ◌≢◌, All}
use Rattle.std.specs.List.{range_with_len, list_all}
use Rattle.byte_view.specs.Columns.{Column, is_table, columns, table_numbers}
use Rattle.byte_view.specs.TableNames.{method_def}
use Rattle.byte_view.specs.Headers.{Headers, bytes_at}
use Rattle.byte_view.specs.Layout.{Layout, table_start}
use Rattle.byte_view.specs.Metadata.{Metadata}
use Rattle.byte_view.specs.Assembly.{image}
use Rattle.byte_view.specs.Cells.{checked_tables, rows_in, value_in}
use Rattle.meta_tables.specs.Cells.{Sizes, sound_in}
use Rattle.image_kit.specs.declared.assembly_plan.TablePlan.{TablePlan}
use Rattle.image_kit.specs.declared.assembly_plan.MethodBody.{MethodBody}
use Rattle.image_kit.specs.declared.assembly_plan.AssemblyPlan.{AssemblyPlan}
use Rattle.image_kit.specs.AssemblyFile.{zeros, rows_among, row_count, row_counts, heap_sizes, widths, written_row, valid, tables_offset, metadata_place, metadata_size, guids, section_rva, section_place, raw_size, assembly_end, assembly_file}
use Rattle.image_kit.specs.LibraryReads.{file_limit}

-- each of the numbers 0 to n - 1 passes a test
unfoldable pub all_below : (ℕ → Bool) → ℕ → Bool
all_below test zero = true
all_below test (suc n) = all_below test n && test n

-- a table is one of the metadata tables and is given once
abbrev pub is_given_once : List TablePlan → ℕ → Bool
is_given_once tables number =
    is_table number && count_by (λ other. other.number == number) tables == 1

-- a table has no more rows than a file may have bytes
abbrev pub has_few_rows : List TablePlan → ℕ → Bool
has_few_rows tables table = nat_le (length (rows_among tables table)) file_limit

-- a row has nine numbers, each of which fits its column; one that the table doesn't have has no
-- bytes, and holds 0
abbrev pub fits_columns : List ℕ → List ℕ → Bool
fits_columns widths row =
    length row == 9
    && all_below (λ column. nat_lt (slice_index row column) (256 ^ slice_index widths column)) 9

-- each row of a table fits its columns
abbrev pub fits_table : AssemblyPlan → ℕ → Bool
fits_table plan table =
    list_all (fits_columns (widths plan table)) (rows_among plan.tables table)

-- how far an index may reach; there is one GUID
abbrev pub sizes : AssemblyPlan → Sizes
sizes plan = record {
  strings = length plan.strings;
  guids = 16;
  blobs = length plan.blobs;
  rows = row_counts plan;
}

-- the row before, zeros at the first
abbrev pub row_before : List (List ℕ) → ℕ → List ℕ
row_before rows zero = zeros 9
row_before rows (suc row) = slice_index_or rows row []

-- each cell of a row holds what its column may hold, with the same cell of the row before
abbrev pub is_sound_row : Sizes → List Column → List ℕ → List ℕ → Bool
is_sound_row sizes columns before row =
    all_below (λ column.
    sound_in sizes (slice_get columns column) (slice_index before column) (slice_index row column))
    (length columns)

abbrev pub are_sound_rows : Sizes → List Column → List (List ℕ) → Bool
are_sound_rows sizes columns rows =
    all_below (λ row.
    is_sound_row sizes columns (row_before rows row) (slice_index_or rows row []))
    (length rows)

abbrev pub is_sound_table : AssemblyPlan → ℕ → Bool
is_sound_table plan table =
    are_sound_rows (sizes plan) (columns table) (rows_among plan.tables table)

-- a body is that of one of so many methods, and no other body is
abbrev pub is_only_body : List MethodBody → ℕ → ℕ → Bool
is_only_body bodies methods method =
    nat_le 1 method && nat_le method methods
    && count_by (λ other. other.method == method) bodies == 1

abbrev pub are_only_bodies : AssemblyPlan → Bool
are_only_bodies plan =
    list_all (λ body. is_only_body plan.bodies (row_count plan method_def) body.method) plan.bodies

-- The plan of an assembly fits: each table is a metadata table and is given once, each number fits
-- its column, the cells of the checked tables are sound, each body is that of a method that has no
-- other, and the file isn't too large.
pub record Fits (plan : AssemblyPlan) : Type 0 where
  pub tables : IsTrue (list_all (λ table. is_given_once plan.tables table.number) plan.tables)
  pub few : IsTrue (all_below (has_few_rows plan.tables) table_numbers)
  pub numbers : IsTrue (all_below (fits_table plan) table_numbers)
  pub cells : IsTrue (list_all (is_sound_table plan) checked_tables)
  pub bodies : IsTrue (are_only_bodies plan)
  pub small : assembly_end plan ≤ file_limit
  pub entry : plan.entry < 2 ^ 32

-- the headers: one section, the CLI header at its start, and the metadata in it
abbrev pub planned_headers : AssemblyPlan → Headers
planned_headers plan = record {
  meta_at = metadata_place plan;
  meta_size = metadata_size plan;
  entry = plan.entry;
  cli_at = section_place;
  sections = record { rva = section_rva; raw_at = section_place; raw_size = raw_size plan } ∷ [];
}

-- where the tables lie in the file
abbrev pub planned_layout : AssemblyPlan → Layout
planned_layout plan = record {
  heap_sizes = heap_sizes plan;
  rows = row_counts plan;
  starts = map (table_start (metadata_place plan + tables_offset) valid (heap_sizes plan) (row_counts plan))
      (range_with_len 0 table_numbers);
}

-- the rows of a table, as they are written
abbrev pub written_rows : AssemblyPlan → ℕ → List (List ℕ)
written_rows plan table = map (written_row plan table) (range_with_len 0 (row_count plan table))

-- the heaps and the rows
abbrev pub planned_metadata : AssemblyPlan → Metadata
planned_metadata plan = record {
  strings = plan.strings;
  user_strings = plan.user;
  guids = guids;
  blobs = plan.blobs;
  layout = planned_layout plan;
  tables = map (written_rows plan) (range_with_len 0 table_numbers);
}

-- A body stands where the row of its method says: the bytes at the row's RVA, which is a multiple of
-- four.
pub record BodyReads (plan : AssemblyPlan) (file : List ℕ) (body : MethodBody) : Type 0 where
  pub rva : ℕ
  pub in_row : value_in (planned_metadata plan) method_def (body.method - 1) 0 ≡ rva
  pub bytes_are : bytes_at file (planned_headers plan).sections rva (length body.bytes)
      ≡ Some body.bytes
  pub aligned : rva % 4 ≡ 0

-- The rows of a table are the plan's, but for the RVAs of methods: of such a cell, the number is the
-- plan's where the method has no body.
pub record RowsRead (plan : AssemblyPlan) (table : TablePlan) : Type 0 where
  pub count : rows_in (planned_metadata plan) table.number ≡ length table.rows
  pub cells : (row column : ℕ) → row < length table.rows
      → ¬ ((table.number ≡ method_def) × (column ≡ 0))
      → value_in (planned_metadata plan) table.number row column
      ≡ slice_index (slice_index_or table.rows row []) column
  pub rvas : (row : ℕ) → row < length table.rows → table.number ≡ method_def
      → All (λ body. body.method ≢ row + 1) plan.bodies
      → value_in (planned_metadata plan) table.number row 0
      ≡ slice_index (slice_index_or table.rows row []) 0

-- The file reads back as its plan: its headers, its heaps, where its tables lie and what its rows are;
-- each table's rows are the plan's, but for RVAs, and at these stand the bodies.
pub record ReadsBack (plan : AssemblyPlan) (file : List ℕ) : Type 0 where
  pub size : length file ≡ assembly_end plan
  pub image_is : image file
      ≡ Ok (record { headers = planned_headers plan; metadata = planned_metadata plan })
  pub rows : (k : ℕ) (table : TablePlan) → slice_get plan.tables k ≡ Some table
      → RowsRead plan table
  pub bodies : (k : ℕ) (body : MethodBody) → slice_get plan.bodies k ≡ Some body
      → BodyReads plan file body

-- the file of each plan that fits reads back as the plan
abbrev pub AssembliesReadBack : Type 0
AssembliesReadBack = (plan : AssemblyPlan) → Fits plan → ReadsBack plan (assembly_file plan)
