use Rattle.std.proofs.Common.{sym}
use Rattle.stub_maker.proofs.Calling.{ok_more, ok_stops}
use Rattle.stub_maker.proofs.callbacks.are_received.Goals as goal

pub returns-then-not-is_received : goal.returns-then-not-is_received
returns-then-not-is_received g c =
    sym (ok_stops (g.K.KnownTypes.known c.args.known.now) c.args.params.now c.args.params.now c.loop-passed.passed-index _ c.loop-passed-test.true c.loop-passed.invariant
    (sym c.if-not-is_received.ensures))

pub loop-passed-preserved : goal.loop-passed-preserved
loop-passed-preserved g c =
    ok_more (g.K.KnownTypes.known c.args.known.now) c.args.params.now c.args.params.now c.loop-passed.passed-index _ c.loop-passed-test.true c.loop-passed.invariant
    (sym c.if-not-is_received.ensures)
