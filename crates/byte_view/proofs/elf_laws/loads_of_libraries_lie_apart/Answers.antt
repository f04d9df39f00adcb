use Rattle.byte_view.proofs.Loads as proved
use Rattle.byte_view.proofs.elf_laws.loads_of_libraries_lie_apart.Goals as goal

pub returns : goal.returns
returns c = proved.loads_of_libraries_lie_apart
