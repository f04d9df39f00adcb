use Rattle.std.proofs.Common.{◌≡◌, get_or, Ok}
use Rattle.byte_view.specs.Reading.{each}
use Rattle.byte_view.specs.Cells.{check_table, checked_tables}
use Rattle.meta_tables.specs.Shapes.{view_layout}
use Rattle.meta_tables.specs.Cells.{metadata_of}
use Rattle.meta_tables.proofs.cells.check_cells.Given as goal

abbrev pub invariant-loop-table : goal.invariant-loop-table
invariant-loop-table l = each (λ k. check_table (view_layout l.layout) (metadata_of l.heaps l.stream l.layout) (get_or checked_tables k 0)) l.table-index ≡ Ok 0
