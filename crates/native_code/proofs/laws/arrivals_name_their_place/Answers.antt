use Rattle.native_code.proofs.EventPlaces.{arrivals_name_their_place}
use Rattle.native_code.proofs.laws.arrivals_name_their_place.Goals as goal

pub returns : goal.returns
returns c = arrivals_name_their_place
