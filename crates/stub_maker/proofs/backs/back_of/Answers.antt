use Rattle.stub_maker.proofs.BackSizes.{answered_signature_sized}
use Rattle.stub_maker.proofs.backs.back_of.Goals as goal

pub returns-then-is_plain_signature-clause-sized : goal.returns-then-is_plain_signature-clause-sized
returns-then-is_plain_signature-clause-sized g c =
    answered_signature_sized (g.K.KnownTypes.known c.args.known.now) (g.met.K.KnownTypes.in_order c.args.known.now) c.in-Some.signature.now c.back_of_signature.result
    c.back_of_signature.ensures
