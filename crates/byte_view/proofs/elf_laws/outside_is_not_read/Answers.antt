use Rattle.byte_view.proofs.Outside.{outside_is_not_read}
use Rattle.byte_view.proofs.elf_laws.outside_is_not_read.Goals as goal

pub returns : goal.returns
returns c = outside_is_not_read
