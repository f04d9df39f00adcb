use Rattle.host_bridge.proofs.Endings.{faults_name_their_place}
use Rattle.host_bridge.proofs.laws.faults_name_their_place.Goals as goal

pub returns : goal.returns
returns c = faults_name_their_place
