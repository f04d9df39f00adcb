-- what is read back so far
use Rattle.std.proofs.Common.{◌≡◌, take}
use Rattle.stub_maker.specs.Rules.{read_back}
use Rattle.stub_maker.proofs.steps.read_back.Given as goal

abbrev pub invariant-loop-step : goal.invariant-loop-step
invariant-loop-step l = l.back ≡ read_back (take l.step-index l.steps)
