use Rattle.elf_binder.proofs.InScope.{first_counts}
use Rattle.elf_binder.proofs.laws.first_library_counts.Goals as goal

pub returns : goal.returns
returns c = first_counts
