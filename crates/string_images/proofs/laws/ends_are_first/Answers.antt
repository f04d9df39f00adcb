use Rattle.string_images.proofs.Characters as characters
use Rattle.string_images.proofs.laws.ends_are_first.Goals as goal

pub returns : goal.returns
returns c = characters.ends_are_first
