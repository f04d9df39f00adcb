use Rattle.std.proofs.Common.{◌≡◌, ◌+◌, map, take, length}
use Rattle.std.specs.List.{range_with_len, sum_by}
use Rattle.meta_tables.specs.View.{bytes_of}
use Rattle.meta_tables.specs.Shapes.{cell_at}
use Rattle.meta_tables.proofs.rows.row_from.Given as goal

abbrev pub invariant-loop-column : goal.invariant-loop-column
invariant-loop-column l = record {
  cells : take l.column l.cells ≡ map (cell_at l.stream l.start (map bytes_of l.widths)) (range_with_len 0 l.column);
  len : length l.cells ≡ 9;
  place : l.place ≡ l.start + sum_by bytes_of (take l.column l.widths);
}
