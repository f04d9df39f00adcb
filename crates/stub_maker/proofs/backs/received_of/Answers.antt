use Rattle.std.proofs.Common.{Ok, ap, refl, sym, ◌∙◌}
use Rattle.stub_maker.specs.declared.stub.Received.{Received}
use Rattle.stub_maker.specs.Callbacks.{marked_of}
use Rattle.stub_maker.proofs.Marking.{laid_form}
use Rattle.stub_maker.proofs.Receiving.{mapped_err, received_ok}
use Rattle.stub_maker.proofs.backs.received_of.Goals as goal

pub shape-requires : goal.shape-requires
shape-requires g c =
    laid_form (g.K.KnownTypes.known c.args.known.now) c.in-Ok.marked
    (marked_of (g.K.KnownTypes.known c.args.known.now) c.args.params.now c.args.passed) c.in-Ok.ensures

pub returns-in-Err : goal.returns-in-Err
returns-in-Err g c = (
  refl,
  mapped_err _ (g.K.KnownTypes.known c.args.known.now) c.in-Err.why (marked_of (g.K.KnownTypes.known c.args.known.now) c.args.params.now c.args.passed) c.in-Err.ensures,
)

pub returns-in_ok-shape-in-Ok : goal.returns-in_ok-shape-in-Ok
returns-in_ok-shape-in-Ok g c =
    received_ok (g.K.KnownTypes.known c.args.known.now) c.args.passed c.in-Ok.marked c.in_ok-shape-in-Ok.shape
    (marked_of (g.K.KnownTypes.known c.args.known.now) c.args.params.now c.args.passed) c.in-Ok.ensures c.in_ok-shape-in-Ok.ensures
    ∙ ap (λ (r : Received). Ok (record { received = r; mark = c.in-Ok.marked.mark })) (sym c.received_by.ensures)
