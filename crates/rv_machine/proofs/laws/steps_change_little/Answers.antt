use Rattle.rv_machine.proofs.Changes.{steps_change_little}
use Rattle.rv_machine.proofs.laws.steps_change_little.Goals as goal

pub returns : goal.returns
returns c = steps_change_little
