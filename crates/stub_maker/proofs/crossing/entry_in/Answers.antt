use Rattle.stub_maker.specs.Shapes.{entry_by}
use Rattle.stub_maker.proofs.Marking.{chosen_none, chosen_some}
use Rattle.stub_maker.proofs.crossing.entry_in.Goals as goal

pub returns-in-Some : goal.returns-in-Some
returns-in-Some g c =
    chosen_some (g.K.KnownTypes.known c.args.known.now) c.args.unicode c.args.column c.args.passed c.in-Some.found
    (entry_by (g.K.KnownTypes.known c.args.known.now) c.args.unicode c.args.column c.args.passed.kind c.args.passed.descriptor) c.in-Some.ensures

pub returns-in-None : goal.returns-in-None
returns-in-None g c =
    chosen_none (g.K.KnownTypes.known c.args.known.now) c.args.unicode c.args.column c.args.passed c.refusal.result
    (entry_by (g.K.KnownTypes.known c.args.known.now) c.args.unicode c.args.column c.args.passed.kind c.args.passed.descriptor) c.in-None.ensures c.refusal.ensures
