use Rattle.byte_view.proofs.Sound as proved
use Rattle.byte_view.proofs.laws.checked_cells_are_sound.Goals as goal

pub returns : goal.returns
returns c = proved.checked_cells_are_sound
