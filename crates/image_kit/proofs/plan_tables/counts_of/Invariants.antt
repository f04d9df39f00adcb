use Rattle.std.proofs.Common.{◌≡◌, length, map, take}
use Rattle.std.specs.List.{range_with_len}
use Rattle.image_kit.specs.AssemblyFile.{rows_among}
use Rattle.image_kit.proofs.plan_tables.counts_of.Given as goal

abbrev pub invariant-loop-table : goal.invariant-loop-table
invariant-loop-table l = record {
  counts : take l.table l.counts ≡ map (λ table. length (rows_among l.tables table)) (range_with_len 0 l.table);
  len : length l.counts ≡ 45;
}
