use Rattle.std.proofs.Common.{◌≡◌, Ok, Err, refl, subst}
use Rattle.stub_maker.specs.declared.table.Column.{Column}
use Rattle.stub_maker.specs.Answers.{map_ok}
use Rattle.stub_maker.specs.Rules.{marked_in, step_by}
use Rattle.stub_maker.proofs.Marking.{laid_form, step_err, step_made}
use Rattle.stub_maker.proofs.crossing.step_of.Goals as goal

pub shape-requires : goal.shape-requires
shape-requires g c =
    laid_form (g.K.KnownTypes.known c.args.known.now) c.in-Ok.marked
    (marked_in (g.K.KnownTypes.known c.args.known.now) c.args.unicode c.column_of.result c.args.passed) c.in-Ok.ensures

pub returns-in-Err : goal.returns-in-Err
returns-in-Err g c =
    let P : Column → Type 0 = λ column. map_ok (step_by c.args.argument)
    (marked_in (g.K.KnownTypes.known c.args.known.now) c.args.unicode column c.args.passed) ≡ Err c.in-Err.why in (
      refl,
      subst P c.column_of.ensures.column
          (step_err (g.K.KnownTypes.known c.args.known.now) c.args.argument c.in-Err.why
          (marked_in (g.K.KnownTypes.known c.args.known.now) c.args.unicode c.column_of.result c.args.passed) c.in-Err.ensures),
    )

pub returns-in_ok-shape-in-Ok : goal.returns-in_ok-shape-in-Ok
returns-in_ok-shape-in-Ok g c =
    let P : Column → Type 0 = λ column. map_ok (step_by c.args.argument)
    (marked_in (g.K.KnownTypes.known c.args.known.now) c.args.unicode column c.args.passed) ≡ Ok c.step_by.result in
    subst P c.column_of.ensures.column
    (step_made (g.K.KnownTypes.known c.args.known.now) c.args.argument c.in-Ok.marked c.in_ok-shape-in-Ok.shape
    (marked_in (g.K.KnownTypes.known c.args.known.now) c.args.unicode c.column_of.result c.args.passed) c.step_by.result c.in-Ok.ensures c.in_ok-shape-in-Ok.ensures
    c.step_by.ensures)
