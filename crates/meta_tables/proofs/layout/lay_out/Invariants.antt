use Rattle.std.proofs.Common.{◌≡◌, ◌≤◌, ◌+◌, map, length, Ok}
use Rattle.std.specs.List.{range_with_len}
use Rattle.byte_view.specs.Reading.{listed}
use Rattle.byte_view.specs.Layout.{table_start, start_of}
use Rattle.meta_tables.specs.Shapes.{view_shape, shape_of}
use Rattle.meta_tables.proofs.layout.lay_out.Given as goal

abbrev pub invariant-loop-table : goal.invariant-loop-table
invariant-loop-table l = record {
  starts : listed (start_of l.image l.start l.valid l.heap_sizes l.rows) l.table ≡ Ok l.starts.items;
  shapes : map view_shape l.shapes.items ≡ map (shape_of l.heap_sizes l.rows) (range_with_len 0 l.table);
  at : l.at ≡ table_start l.start l.valid l.heap_sizes l.rows l.table;
  small : l.at ≤ length l.image + 276;
}
