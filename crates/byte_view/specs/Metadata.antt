-- Metadata as heaps and tables: byte lists, and lists of rows of numbers.
use Rattle.std.specs.Prelude.{ℕ, zero, suc, ◌+◌, ◌*◌, nat_lt, if◌then◌else◌, List, [], length, map, slice_index, slice_get, slice_index_or, Option, Some, None}
use Rattle.std.specs.List.{range_with_len}
use Rattle.byte_view.specs.Numbers.{le}
use Rattle.byte_view.specs.Columns.{Column, columns, width, column_offset, row_width, table_numbers}
use Rattle.byte_view.specs.Layout.{Layout}

-- the heaps `#Strings`, `#US`, `#GUID` and `#Blob`, where the tables lie in the file, and the rows
-- of each table by its number
pub record Metadata : Type 0 where
  pub strings : List ℕ
  pub user_strings : List ℕ
  pub guids : List ℕ
  pub blobs : List ℕ
  pub layout : Layout
  pub tables : List (List (List ℕ))

-- the rows of a table
unfoldable pub table_of : Metadata → ℕ → List (List ℕ)
table_of m table = slice_index_or m.tables table []

-- a row by its number, from 1
abbrev pub row_of : Metadata → ℕ → ℕ → Option (List ℕ)
row_of m table zero = None
row_of m table (suc n) = slice_get (table_of m table) n

-- the file offset at which a row begins; the row is counted from 0
abbrev pub row_start : Layout → ℕ → ℕ → ℕ
row_start l table row = slice_index l.starts table + row * row_width l.heap_sizes l.rows table

-- the file offset at which a row begins, by its number, from 1
abbrev pub row_place : Metadata → ℕ → ℕ → Option ℕ
row_place m table zero = None
row_place m table (suc n) =
    if nat_lt n (length (table_of m table)) then Some (row_start m.layout table n) else None

-- the file offset of a cell; the row is counted from 0
abbrev pub cell_place : Layout → ℕ → ℕ → ℕ → ℕ
cell_place l table row column =
    row_start l table row + column_offset l.heap_sizes l.rows (columns table) column

-- the number in a cell, 0 past the last column
abbrev pub cell_value : List ℕ → Layout → ℕ → ℕ → ℕ → Option Column → ℕ
cell_value image l table row column None = 0
cell_value image l table row column (Some kind) =
    le image (cell_place l table row column) (width l.heap_sizes l.rows kind)

-- how many numbers a row is given with: the most columns that a table has
abbrev pub row_numbers : ℕ
row_numbers = 9

-- a row's numbers, column after column, and 0 for those that its table doesn't have
unfoldable pub row_at : List ℕ → Layout → ℕ → ℕ → List ℕ
row_at image l table row =
    map (λ column. cell_value image l table row column (slice_get (columns table) column))
    (range_with_len 0 row_numbers)

-- all rows of all tables
unfoldable pub tables_in : List ℕ → Layout → List (List (List ℕ))
tables_in image l =
    map (λ table. map (row_at image l table) (range_with_len 0 (slice_index l.rows table)))
    (range_with_len 0 table_numbers)
