use Rattle.type_model.specs.MemberViews.{view_import, view_method}
use Rattle.stub_maker.specs.Described.{imported_by}
use Rattle.stub_maker.proofs.Sizes.{answered_sized}
use Rattle.stub_maker.proofs.assembly.stub_by.Goals as goal

pub returns-in-Some-clause-sized : goal.returns-in-Some-clause-sized
returns-in-Some-clause-sized g c =
    answered_sized (g.K.KnownTypes.known c.args.known.now) (g.met.K.KnownTypes.in_order c.args.known.now)
    (imported_by c.args.types.now (view_import c.args.import.now) (view_method c.in-Some.method)) c.stub_of_method.result c.stub_of_method.ensures
