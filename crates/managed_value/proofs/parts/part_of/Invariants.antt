-- what is left of the path leads on from the part that is reached
use Rattle.std.proofs.Common.{◌≡◌, drop}
use Rattle.managed_value.specs.Parts.{part_at}
use Rattle.managed_value.specs.View.{shown}
use Rattle.managed_value.proofs.parts.part_of.Given as goal

abbrev pub invariant-loop-step : goal.invariant-loop-step
invariant-loop-step l = part_at (shown l.part) (drop l.step-index l.path) ≡ part_at l.v l.path
