use Rattle.std.proofs.Common.{◌≡◌, map, take, length, slice_get}
use Rattle.std.specs.List.{range_with_len}
use Rattle.meta_tables.specs.View.{bytes_of, view_column}
use Rattle.meta_tables.specs.Shapes.{width_at}
use Rattle.meta_tables.proofs.layout.widths_of.Given as goal

abbrev pub invariant-loop-at : goal.invariant-loop-at
invariant-loop-at l = record {
  widths : map bytes_of (take l.at l.widths) ≡ map (λ k. width_at l.heap_sizes l.rows (slice_get (map view_column l.columns) k)) (range_with_len 0 l.at);
  len : length l.widths ≡ 9;
}
