use Rattle.std.proofs.Common.{◌∙◌, sym, refl, None}
use Rattle.std.proofs.lemmas.Result.{err_from_is_err_and}
use Rattle.host_run.specs.Grammar.{command, texts}
use Rattle.host_run.proofs.Bounds.{bounds-kept}
use Rattle.host_run.proofs.Contents.{obeys-usage, usage-for, obeys-without-memory}
use Rattle.host_run.proofs.top_call.carry_out.Goals as goal

pub returns-in_err-command : goal.returns-in_err-command
returns-in_err-command g c =
    let p = err_from_is_err_and c.from_residual.result c.from_residual.ensures.1 in
    rw (p.1, p.2) (obeys-without-memory (command (texts c.args.words.now)) (texts c.args.words.now) _ _ _ refl refl refl refl)

pub returns-in-None : goal.returns-in-None
returns-in-None g c =
    obeys-usage (command (texts c.args.words.now)) (texts c.args.words.now) _ c.usage.result _ _ (λ files. usage-for (command (texts c.args.words.now)) None (texts c.args.words.now) files (sym c.in_ok-command.ensures.command ∙ c.in-None.is) refl) c.usage.ensures refl refl refl refl

pub obey-requires : goal.obey-requires
obey-requires g c = bounds-kept (texts c.args.words.now) _ c.in-Some.command c.in_ok-command.ensures.command c.in-Some.is
