use Rattle.rv_machine.proofs.Changes.{steps_stop_below_lowest}
use Rattle.rv_machine.proofs.laws.steps_stop_below_lowest.Goals as goal

pub returns : goal.returns
returns c = steps_stop_below_lowest
