use Rattle.elf_binder.proofs.HostPlaces.{host_place_is}
use Rattle.elf_binder.proofs.laws.host_functions_lie_apart.Goals as goal

pub returns : goal.returns
returns c = host_place_is
