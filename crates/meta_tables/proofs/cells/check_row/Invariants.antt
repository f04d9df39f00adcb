use Rattle.std.proofs.Common.{◌≡◌, ◌≤◌, ◌*◌, ◌+◌, map, take, Ok}
use Rattle.std.specs.List.{sum_by}
use Rattle.byte_view.specs.Reading.{each}
use Rattle.meta_tables.specs.View.{bytes_of, view_column}
use Rattle.meta_tables.specs.Cells.{sizes_of, tests_row}
use Rattle.meta_tables.proofs.cells.check_row.Given as goal

abbrev pub invariant-loop-column : goal.invariant-loop-column
invariant-loop-column l = record {
  passed : each (tests_row (sizes_of l.heaps l.rows) (map view_column l.columns) (map bytes_of l.widths) l.start l.before l.row) l.column ≡ Ok 0;
  place : l.place ≡ l.start + sum_by bytes_of (take l.column l.widths);
  small : l.place ≤ l.start + 4 * l.column;
}
