-- what is written so far are the lines of the steps so far
use Rattle.std.proofs.Common.{◌≡◌, ◌++◌, take}
use Rattle.std.specs.List.{flat_map}
use Rattle.stub_maker.specs.Printed.{step_line}
use Rattle.stub_maker.proofs.printing.push_steps.Given as goal

abbrev pub invariant-loop-step : goal.invariant-loop-step
invariant-loop-step l = l.text ≡ l.initial.text ++ flat_map step_line (take l.step-index l.steps)
