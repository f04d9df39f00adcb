use Rattle.std.proofs.Common.{refl}
use Rattle.elf_binder.proofs.Inside.{library_keeps}
use Rattle.elf_binder.proofs.binding_laws.relocations_stay_inside.Goals as goal

pub returns : goal.returns
returns c = λ modules placed old new sound e addr out. (library_keeps modules old addr old placed new out (record { sound = sound; byte = refl }) e).byte
