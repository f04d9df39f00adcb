use Rattle.native_code.proofs.EventPlaces.{faults_name_their_place}
use Rattle.native_code.proofs.laws.faults_name_their_place.Goals as goal

pub returns : goal.returns
returns c = faults_name_their_place
