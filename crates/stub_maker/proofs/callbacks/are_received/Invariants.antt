-- the parameters so far are received
use Rattle.std.proofs.Common.{◌≡◌, true, is_ok, take}
use Rattle.stub_maker.specs.Rules.{each_from}
use Rattle.stub_maker.specs.Callbacks.{received_of}
use Rattle.stub_maker.proofs.callbacks.are_received.Given as goal

abbrev pub invariant-loop-passed : goal.invariant-loop-passed
invariant-loop-passed g l = is_ok (each_from (received_of (g.K.KnownTypes.known l.known) l.params) 0 (take l.passed-index l.params)) ≡ true
