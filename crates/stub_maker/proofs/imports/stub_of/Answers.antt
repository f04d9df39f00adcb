use Rattle.stub_maker.proofs.Sizes.{answered_signature_sized}
use Rattle.stub_maker.proofs.imports.stub_of.Goals as goal

pub returns-then-is_plain_signature-clause-sized : goal.returns-then-is_plain_signature-clause-sized
returns-then-is_plain_signature-clause-sized g c =
    answered_signature_sized (g.K.KnownTypes.known c.args.known.now) (g.met.K.KnownTypes.in_order c.args.known.now) c.args.import.now c.in-Some.signature
    c.stub_of_signature.result c.stub_of_signature.ensures
