use Rattle.image_kit.proofs.AssemblyLaw as proved
use Rattle.image_kit.proofs.laws.assemblies_read_back.Goals as goal

pub returns : goal.returns
returns c = proved.assemblies_read_back
