use Rattle.string_images.proofs.Characters as characters
use Rattle.string_images.proofs.laws.texts_round_trip.Goals as goal

pub returns : goal.returns
returns c = characters.texts_round_trip
