-- The shapes of the tables' rows, and the code's layout as that of the definitions.
use Rattle.std.specs.Prelude.{◌≡◌, ℕ, ◌+◌, ◌*◌, ◌<◌, ◌≤◌, ◌||◌, not, List, length, map, take, sum, slice_index, slice_get, Option, Some, None, Result}
use Rattle.std.specs.List.{range_with_len}
use Rattle.byte_view.specs.Numbers.{le}
use Rattle.byte_view.specs.Reading.{Broken, must}
use Rattle.byte_view.specs.Columns.{Column, columns, width, row_width, is_table, table_numbers}
use Rattle.byte_view.specs.Layout.{Layout, is_present}
use Rattle.byte_view.specs.Metadata.{row_numbers}
use Rattle.byte_view.specs.Parts as parts
use Rattle.meta_tables.specs.declared.layout.Shape.{Shape as CodeShape}
use Rattle.meta_tables.specs.declared.layout.Layout.{Layout as CodeLayout}
use Rattle.meta_tables.specs.View.{bytes_of}

abbrev pub view_layout : CodeLayout → Layout
view_layout l = record { heap_sizes = l.heap_sizes; rows = l.rows.items; starts = l.starts.items }

-- a bit of Valid that is set is a table's
abbrev pub tests_valid : ℕ → ℕ → ℕ → Result ℕ Broken
tests_valid valid at table =
    must (is_table table || not (is_present valid table)) (parts.tables, at)

-- the width of a cell, 0 after the last column
abbrev pub width_at : ℕ → List ℕ → Option Column → ℕ
width_at heap_sizes rows None = 0
width_at heap_sizes rows (Some column) = width heap_sizes rows column

abbrev pub cell_widths : ℕ → List ℕ → ℕ → List ℕ
cell_widths heap_sizes rows table =
    map (λ column. width_at heap_sizes rows (slice_get (columns table) column))
    (range_with_len 0 row_numbers)

-- the widths of a table's cells, and of its rows
abbrev pub shape_of : ℕ → List ℕ → ℕ → List ℕ × ℕ
shape_of heap_sizes rows table =
    (cell_widths heap_sizes rows table, row_width heap_sizes rows table)

abbrev pub view_shape : CodeShape → List ℕ × ℕ
view_shape s = (map bytes_of s.widths, s.row_width)

-- each table has its shape
abbrev pub HasShapes : CodeLayout → Type 0
HasShapes l =
    map view_shape l.shapes.items
    ≡ map (shape_of l.heap_sizes l.rows.items) (range_with_len 0 table_numbers)

-- A layout whose tables lie in the stream: what a row's bytes need.
pub record IsLaidOut (stream : List ℕ) (l : CodeLayout) : Type 0 where
  pub rows : length l.rows.items ≡ table_numbers
  pub starts : length l.starts.items ≡ table_numbers
  pub shapes : HasShapes l
  pub within : (table : ℕ) → table < table_numbers
      → slice_index l.starts.items table
      + slice_index l.rows.items table * row_width l.heap_sizes l.rows.items table
      ≤ length stream

-- the numbers in cells of these widths, one after another
abbrev pub cell_at : List ℕ → ℕ → List ℕ → ℕ → ℕ
cell_at stream start widths column =
    le stream (start + sum (take column widths)) (slice_index widths column)

abbrev pub cells_at : List ℕ → ℕ → List ℕ → List ℕ
cells_at stream start widths = map (cell_at stream start widths) (range_with_len 0 row_numbers)
