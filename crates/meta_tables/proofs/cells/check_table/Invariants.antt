use Rattle.std.proofs.Common.{◌≡◌, ◌*◌, ◌+◌, get_or, Ok}
use Rattle.byte_view.specs.Reading.{each}
use Rattle.byte_view.specs.Cells.{check_row}
use Rattle.meta_tables.specs.Shapes.{view_layout}
use Rattle.meta_tables.specs.Cells.{metadata_of, row_before}
use Rattle.meta_tables.proofs.cells.check_table.Given as goal

abbrev pub invariant-loop : goal.invariant-loop
invariant-loop l = record {
  passed : each (check_row (view_layout l.layout) (metadata_of l.heaps l.stream l.layout) l.table) l.counter ≡ Ok 0;
  place : l.place ≡ get_or l.layout.starts.items l.table 0 + l.counter * l.shape.row_width;
  before : l.before ≡ row_before l.stream (view_layout l.layout) l.table l.counter;
}
