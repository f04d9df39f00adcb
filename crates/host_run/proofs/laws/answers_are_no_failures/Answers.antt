use Rattle.host_run.proofs.Answers.{answers_are_no_failures}
use Rattle.host_run.proofs.laws.answers_are_no_failures.Goals as goal

pub returns : goal.returns
returns c = answers_are_no_failures
