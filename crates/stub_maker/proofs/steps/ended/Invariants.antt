-- what ends so far, first to last
use Rattle.std.proofs.Common.{◌≡◌, map, take}
use Rattle.std.specs.List.{filter}
use Rattle.stub_maker.specs.Rules.{may_lend}
use Rattle.stub_maker.specs.Steps.{argument_of}
use Rattle.stub_maker.proofs.steps.ended.Given as goal

abbrev pub invariant-loop-step : goal.invariant-loop-step
invariant-loop-step l = l.ends.items ≡ map argument_of (filter may_lend (take l.step-index l.steps))
