use Rattle.rv_machine.proofs.Changes.{faults_change_nothing}
use Rattle.rv_machine.proofs.laws.faults_change_nothing.Goals as goal

pub returns : goal.returns
returns c = faults_change_nothing
