use Rattle.std.proofs.Common.{◌≡◌, Ok}
use Rattle.byte_view.specs.Reading.{each}
use Rattle.meta_tables.specs.Shapes.{tests_valid}
use Rattle.meta_tables.proofs.layout.check_valid.Given as goal

abbrev pub invariant-loop-table : goal.invariant-loop-table
invariant-loop-table l = each (tests_valid l.valid l.at) l.table ≡ Ok 0
