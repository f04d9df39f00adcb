-- the parameters so far, and their marks
use Rattle.std.proofs.Common.{◌≡◌, Ok, take}
use Rattle.stub_maker.specs.Answers.{map_ok}
use Rattle.stub_maker.specs.Rules.{each_from}
use Rattle.stub_maker.specs.Callbacks.{in_lists, received_of}
use Rattle.stub_maker.proofs.backs.received_params.Given as goal

abbrev pub invariant-loop-index : goal.invariant-loop-index
invariant-loop-index g l =
    map_ok in_lists (each_from (received_of (g.K.KnownTypes.known l.known) l.params) 0 (take l.index l.params))
    ≡ Ok (record { received = l.received; marks = l.marks })
