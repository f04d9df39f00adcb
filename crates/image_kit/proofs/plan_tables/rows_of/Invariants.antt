use Rattle.std.proofs.Common.{◌≡◌, drop}
use Rattle.image_kit.specs.AssemblyFile.{rows_among}
use Rattle.image_kit.proofs.plan_tables.rows_of.Given as goal

abbrev pub invariant-loop-table : goal.invariant-loop-table
invariant-loop-table l = rows_among (drop l.table-index l.tables) l.number ≡ rows_among l.tables l.number
