use Rattle.std.proofs.Common.{◌≡◌, map}
use Rattle.std.specs.List.{range_with_len}
use Rattle.type_model.specs.Module.{kept_rows}
use Rattle.type_model.proofs.copies.copy_tables.Given as goal

abbrev pub invariant-loop-table : goal.invariant-loop-table
invariant-loop-table l = l.tables ≡ map (kept_rows l.meta) (range_with_len 0 l.table)
