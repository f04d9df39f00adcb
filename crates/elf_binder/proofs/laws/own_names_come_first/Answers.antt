use Rattle.std.proofs.Common.{refl}
use Rattle.elf_binder.specs.Modules.{library_named}
use Rattle.elf_binder.proofs.laws.own_names_come_first.Goals as goal

pub returns : goal.returns
unfolding library_named
returns c = λ modules name number is. rw (is, library_named) refl
