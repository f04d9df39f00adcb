use Rattle.std.proofs.Common.{sym, ◌∙◌, ap, ◌+◌}
use Rattle.std.proofs.lemmas.Result.{err_from_is_err_and}
use Rattle.host_run.proofs.Lines.{run_unfit, run_said, program_fits}
use Rattle.host_run.proofs.words.run.Goals as goal

pub returns-then-not-fits_program-clause-program : goal.returns-then-not-fits_program-clause-program
returns-then-not-fits_program-clause-program c =
    run_unfit c.args.words.now _ _ c.end_of-end.ensures.value c.from_or_none.ensures (sym c.fits_program.ensures ∙ c.if-not-fits_program.true)

pub returns-in-Some-clause-program : goal.returns-in-Some-clause-program
returns-in-Some-clause-program c =
    c.said_whole.ensures
    ∙ run_said c.args.words.now _ _ _ _ c.end_of-end.ensures.value c.from_or_none.ensures (sym c.fits_program.ensures ∙ c.if-not-fits_program.false) (ap (λ n. 1 + n) c.min-before.ensures) (sym c.in-Some.is ∙ c.in_ok-said.ensures)

pub returns-in-None-clause-program : goal.returns-in-None-clause-program
returns-in-None-clause-program c =
    run_said c.args.words.now _ _ _ _ c.end_of-end.ensures.value c.from_or_none.ensures (sym c.fits_program.ensures ∙ c.if-not-fits_program.false) (ap (λ n. 1 + n) c.min-before.ensures) (sym c.in-None.is ∙ c.in_ok-said.ensures)

pub returns-in_err-said-clause-memory : goal.returns-in_err-said-clause-memory
returns-in_err-said-clause-memory c =
    let p = err_from_is_err_and c.from_residual.result c.from_residual.ensures.1 in
    rw p.1 (program_fits c.args.words.now _ _ c.end_of-end.ensures.value c.from_or_none.ensures (sym c.fits_program.ensures ∙ c.if-not-fits_program.false))
