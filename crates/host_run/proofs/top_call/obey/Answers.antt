-- What isn't built is answered by the usage line, whatever the files.
use Rattle.std.proofs.Common.{ap, refl, Some}
use Rattle.host_run.specs.Grammar.{texts}
use Rattle.host_run.proofs.Contents.{obeys-usage, usage-for}
use Rattle.host_run.proofs.top_call.obey.Goals as goal

pub returns-in-Run : goal.returns-in-Run
returns-in-Run g c =
    obeys-usage (Some c.args.command) (texts c.args.words.now) _ c.usage.result _ _ (λ files. usage-for (Some c.args.command) _ (texts c.args.words.now) files (ap Some c.in-Run.is) refl) c.usage.ensures refl refl refl refl

pub returns : goal.returns
returns g c =
    obeys-usage (Some c.args.command) (texts c.args.words.now) _ c.usage-in-Drill.result _ _ (λ files. usage-for (Some c.args.command) _ (texts c.args.words.now) files (ap Some c.in-Drill.is) refl) c.usage-in-Drill.ensures refl refl refl refl
