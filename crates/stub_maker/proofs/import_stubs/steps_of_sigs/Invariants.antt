-- the steps so far are those of the parameters so far
use Rattle.std.proofs.Common.{◌≡◌, Ok, take}
use Rattle.stub_maker.specs.Described.{passed_params}
use Rattle.stub_maker.specs.Rules.{each_from, step_of}
use Rattle.stub_maker.proofs.import_stubs.steps_of_sigs.Given as goal

abbrev pub invariant-loop-index : goal.invariant-loop-index
invariant-loop-index g l =
    each_from (step_of (g.K.KnownTypes.known l.known) l.unicode) 0 (take l.index (passed_params l.types l.method l.sigs)) ≡ Ok l.steps
