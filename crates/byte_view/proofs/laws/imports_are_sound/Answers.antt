use Rattle.byte_view.proofs.Sound as proved
use Rattle.byte_view.proofs.laws.imports_are_sound.Goals as goal

pub returns : goal.returns
returns c = proved.imports_are_sound
