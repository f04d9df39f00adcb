use Rattle.stub_maker.proofs.Sizes.{steps_sized}
use Rattle.stub_maker.proofs.imports.stub_of_signature.Goals as goal

pub stub_with-requires : goal.stub_with-requires
stub_with-requires g c =
    (steps_sized (g.K.KnownTypes.known c.args.known.now) (g.met.K.KnownTypes.in_order c.args.known.now) c.args.import.now.unicode 0 c.as_slice.result.now c.in_ok-steps.steps
    c.in_ok-steps.ensures)
