use Rattle.byte_view.proofs.Loads as proved
use Rattle.byte_view.proofs.elf_laws.cut_libraries_are_refused.Goals as goal

pub returns : goal.returns
returns c = proved.cut_libraries_are_refused
