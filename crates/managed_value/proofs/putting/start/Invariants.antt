-- the ranges so far, and those that are left
use Rattle.std.proofs.Common.{◌≡◌, ◌+◌, drop}
use Rattle.managed_value.specs.Parts.{start_of}
use Rattle.managed_value.proofs.putting.start.Given as goal

abbrev pub invariant-loop-step : goal.invariant-loop-step
invariant-loop-step l = l.at + start_of (drop l.step-index l.path) ≡ start_of l.path
