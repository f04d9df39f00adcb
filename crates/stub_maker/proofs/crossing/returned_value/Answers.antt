use Rattle.std.proofs.Common.{Err, refl, subst, sym}
use Rattle.stub_maker.specs.declared.stub.Res.{Res}
use Rattle.stub_maker.specs.declared.refused.Param.TheVariants.{Result as TheResult}
use Rattle.stub_maker.specs.declared.refused.StubBad.{StubBad}
use Rattle.stub_maker.specs.Answers.{and_then, map_ok}
use Rattle.stub_maker.specs.Crossing.{IsStep}
use Rattle.stub_maker.specs.Rules.{entry_in, laid, returned_by}
use Rattle.stub_maker.proofs.Marking.{laid_out_form, result_err, result_made}
use Rattle.stub_maker.proofs.crossing.returned_value.Goals as goal

pub shape-requires : goal.shape-requires
shape-requires g c =
    laid_out_form (g.K.KnownTypes.known c.args.known.now) c.in-Ok.found
    (and_then (λ e. laid e.shape e) (entry_in (g.K.KnownTypes.known c.args.known.now) c.args.unicode c.args.column c.args.passed)) c.in-Ok.ensures

pub returns-in-Err : goal.returns-in-Err
returns-in-Err g c =
    let P : StubBad → Type 0 = λ bad. IsStep {A = Res} TheResult (Err bad) (map_ok returned_by
    (and_then (λ e. laid e.shape e) (entry_in (g.K.KnownTypes.known c.args.known.now) c.args.unicode c.args.column c.args.passed))) in
    subst P (sym c.outside_result.ensures) (
      refl,
      result_err (g.K.KnownTypes.known c.args.known.now) c.in-Err.why
          (and_then (λ e. laid e.shape e) (entry_in (g.K.KnownTypes.known c.args.known.now) c.args.unicode c.args.column c.args.passed)) c.in-Err.ensures,
    )

pub returns-in_ok-shape-in-Ok : goal.returns-in_ok-shape-in-Ok
returns-in_ok-shape-in-Ok g c =
    result_made (g.K.KnownTypes.known c.args.known.now) c.in-Ok.found c.in_ok-shape-in-Ok.shape
    (and_then (λ e. laid e.shape e) (entry_in (g.K.KnownTypes.known c.args.known.now) c.args.unicode c.args.column c.args.passed))
    c.returned_by.result c.in-Ok.ensures c.in_ok-shape-in-Ok.ensures c.returned_by.ensures
