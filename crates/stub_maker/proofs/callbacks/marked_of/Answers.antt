use Rattle.std.proofs.Common.{Err, Option, Result, false, ap, subst, sym, ◌∙◌}
use Rattle.stub_maker.specs.declared.crossing.MarkedEntry.{MarkedEntry}
use Rattle.stub_maker.specs.declared.stub.Mark.{Mark}
use Rattle.stub_maker.specs.declared.table.Column.{Column}
use Rattle.stub_maker.specs.declared.refused.Why.{Why}
use Rattle.stub_maker.specs.Answers.{and_then}
use Rattle.stub_maker.specs.Callbacks.{with_length}
use Rattle.stub_maker.specs.Rules.{entry_in, laid, mark_in, with_mark}
use Rattle.stub_maker.specs.Crossing.{IsMarked, marked_if}
use Rattle.stub_maker.proofs.Marking.{marked_err, marked_ok}
use Rattle.stub_maker.proofs.callbacks.marked_of.Goals as goal

pub returns-in-Err : goal.returns-in-Err
returns-in-Err g c =
    let P : Column → Type 0 = λ column. IsMarked (g.K.KnownTypes.known c.args.known.now) (Err c.in-Err.why)
    (and_then (λ m. laid m.entry.shape m) (and_then (λ e. with_mark e (mark_in e.cell c.args.passed.flags))
    (and_then (with_length c.args.params.now c.args.passed) (entry_in (g.K.KnownTypes.known c.args.known.now) false column c.args.passed)))) in
    subst P c.column_of.ensures.column
    (marked_err (g.K.KnownTypes.known c.args.known.now) c.args.passed.flags c.in-Err.why
    (and_then (with_length c.args.params.now c.args.passed) (entry_in (g.K.KnownTypes.known c.args.known.now) false c.column_of.result c.args.passed)) c.in-Err.ensures)

pub returns-in-Ok : goal.returns-in-Ok
returns-in-Ok g c =
    let P : Column → Type 0 = λ column. IsMarked (g.K.KnownTypes.known c.args.known.now) c.marked_if.result
    (and_then (λ m. laid m.entry.shape m) (and_then (λ e. with_mark e (mark_in e.cell c.args.passed.flags))
    (and_then (with_length c.args.params.now c.args.passed) (entry_in (g.K.KnownTypes.known c.args.known.now) false column c.args.passed)))) in
    let Q : Result MarkedEntry Why → Type 0 = λ m. IsMarked (g.K.KnownTypes.known c.args.known.now) m
    (and_then (λ m. laid m.entry.shape m) (and_then (λ e. with_mark e (mark_in e.cell c.args.passed.flags))
    (and_then (with_length c.args.params.now c.args.passed) (entry_in (g.K.KnownTypes.known c.args.known.now) false c.column_of.result c.args.passed)))) in
    subst P c.column_of.ensures.column
    (subst Q (sym (c.marked_if.ensures ∙ ap (λ (o : Option Mark). marked_if c.in-Ok.found o c.in-Ok.found.contents.laid_out) c.mark_in.ensures))
    (marked_ok (g.K.KnownTypes.known c.args.known.now) c.in-Ok.found c.args.passed.flags
    (and_then (with_length c.args.params.now c.args.passed) (entry_in (g.K.KnownTypes.known c.args.known.now) false c.column_of.result c.args.passed)) c.in-Ok.ensures))
