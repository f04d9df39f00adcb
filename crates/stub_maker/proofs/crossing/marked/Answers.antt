use Rattle.std.proofs.Common.{Option, Result, ap, subst, sym, ◌∙◌}
use Rattle.stub_maker.specs.declared.crossing.MarkedEntry.{MarkedEntry}
use Rattle.stub_maker.specs.declared.stub.Mark.{Mark}
use Rattle.stub_maker.specs.declared.refused.Why.{Why}
use Rattle.stub_maker.specs.Rules.{entry_in, marked_in}
use Rattle.stub_maker.specs.Crossing.{IsMarked, marked_if}
use Rattle.stub_maker.proofs.Marking.{marked_err, marked_ok}
use Rattle.stub_maker.proofs.crossing.marked.Goals as goal

pub returns-in-Err : goal.returns-in-Err
returns-in-Err g c =
    marked_err (g.K.KnownTypes.known c.args.known.now) c.args.passed.flags c.in-Err.why
    (entry_in (g.K.KnownTypes.known c.args.known.now) c.args.unicode c.args.column c.args.passed) c.in-Err.ensures

pub returns-in-Ok : goal.returns-in-Ok
returns-in-Ok g c =
    let P : Result MarkedEntry Why → Type 0 = λ m. IsMarked (g.K.KnownTypes.known c.args.known.now) m
    (marked_in (g.K.KnownTypes.known c.args.known.now) c.args.unicode c.args.column c.args.passed) in
    subst P (sym (c.marked_if.ensures ∙ ap (λ (o : Option Mark). marked_if c.in-Ok.found o c.in-Ok.found.contents.laid_out) c.mark_in.ensures))
    (marked_ok (g.K.KnownTypes.known c.args.known.now) c.in-Ok.found c.args.passed.flags
    (entry_in (g.K.KnownTypes.known c.args.known.now) c.args.unicode c.args.column c.args.passed) c.in-Ok.ensures)
