use Rattle.std.proofs.Common.{◌≡◌, ◌+◌, ◌*◌, ◌^◌, ◌≤◌}
use Rattle.byte_view.specs.Layout.{table_start}
use Rattle.image_kit.specs.AssemblyFile.{valid}
use Rattle.image_kit.proofs.plan_tables.tables_size.Given as goal

abbrev pub invariant-loop-table : goal.invariant-loop-table
invariant-loop-table l = record {
  size : l.size ≡ table_start 0 valid l.sizes.heap_sizes l.sizes.rows l.table;
  bound : l.size ≤ 176 + l.table * (36 * 2 ^ 32);
}
