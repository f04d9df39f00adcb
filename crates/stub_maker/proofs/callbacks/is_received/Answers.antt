use Rattle.std.proofs.Common.{◌∙◌}
use Rattle.stub_maker.specs.Callbacks.{marked_of}
use Rattle.stub_maker.proofs.Calling.{marked_is_ok}
use Rattle.stub_maker.proofs.callbacks.is_received.Goals as goal

pub returns : goal.returns
returns g c =
    c.is_ok.ensures.value
    ∙ marked_is_ok (g.K.KnownTypes.known c.args.known.now) c.marked_of.result (marked_of (g.K.KnownTypes.known c.args.known.now) c.args.params.now c.args.passed) c.marked_of.ensures
