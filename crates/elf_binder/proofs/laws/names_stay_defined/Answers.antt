use Rattle.elf_binder.proofs.InScope.{stay_defined}
use Rattle.elf_binder.proofs.laws.names_stay_defined.Goals as goal

pub returns : goal.returns
returns c = stay_defined
