use Rattle.image_kit.proofs.LibraryLaw as proved
use Rattle.image_kit.proofs.laws.libraries_read_back.Goals as goal

pub returns : goal.returns
returns c = proved.libraries_read_back
