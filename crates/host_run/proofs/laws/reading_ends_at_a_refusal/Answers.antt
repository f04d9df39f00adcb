use Rattle.host_run.proofs.Answers.{reading_ends_at_a_refusal}
use Rattle.host_run.proofs.laws.reading_ends_at_a_refusal.Goals as goal

pub returns : goal.returns
returns c = reading_ends_at_a_refusal
