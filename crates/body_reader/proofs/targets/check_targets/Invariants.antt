use Rattle.std.proofs.Common.{◌≡◌, Ok}
use Rattle.byte_view.specs.Reading.{each}
use Rattle.body_reader.specs.Code.{check_at}
use Rattle.body_reader.proofs.targets.check_targets.Given as goal

abbrev pub invariant-loop-at : goal.invariant-loop-at
invariant-loop-at l = each (check_at l.code l.starts) l.at ≡ Ok 0
