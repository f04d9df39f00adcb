use Rattle.std.proofs.Common.{rules}
use Rattle.stub_maker.specs.declared.backs.ReceivedParams.{ReceivedParams}
use Rattle.stub_maker.specs.Callbacks.{received_of}
use Rattle.stub_maker.proofs.Receiving.{received_fails, received_pushed}
use Rattle.stub_maker.proofs.backs.received_params.Goals as goal

pub returns-in_err-one : goal.returns-in_err-one
returns-in_err-one g c =
    let so_far : ReceivedParams = record { received = c.loop-index.received; marks = c.loop-index.marks } in
    let h = received_fails (received_of (g.K.KnownTypes.known c.args.known.now) c.args.params.now) c.args.params.now c.loop-index.index _ so_far _
    c.loop-index-test.true c.loop-index.invariant c.in_err-one.ensures in
    search rules

pub loop-index-preserved : goal.loop-index-preserved
loop-index-preserved g c =
    let so_far : ReceivedParams = record { received = c.loop-index.received; marks = c.loop-index.marks } in
    received_pushed (received_of (g.K.KnownTypes.known c.args.known.now) c.args.params.now) c.args.params.now c.loop-index.index _ so_far c.in_ok-one.one
    c.push.new.self c.push-in-loop-index.new.self c.loop-index-test.true c.loop-index.invariant c.in_ok-one.ensures c.in_ok-push.ensures.ok c.in_ok-push-2.ensures.ok
