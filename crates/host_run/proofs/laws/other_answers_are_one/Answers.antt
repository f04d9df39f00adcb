use Rattle.host_run.proofs.Answers.{other_answers_are_one}
use Rattle.host_run.proofs.laws.other_answers_are_one.Goals as goal

pub returns : goal.returns
returns c = other_answers_are_one
