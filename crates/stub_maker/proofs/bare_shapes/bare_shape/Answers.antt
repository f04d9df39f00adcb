use Rattle.stub_maker.specs.declared.kinds.TypeKind.TheVariants.{One}
use Rattle.stub_maker.proofs.BackSizes.{answered_bare_sized}
use Rattle.stub_maker.proofs.bare_shapes.bare_shape.Goals as goal

pub returns-in-One-clause-sized : goal.returns-in-One-clause-sized
returns-in-One-clause-sized g c =
    answered_bare_sized (g.K.KnownTypes.known c.args.known.now) (g.met.K.KnownTypes.in_order c.args.known.now) (One c.in-One.kind) c.bare_one.result c.bare_one.ensures
