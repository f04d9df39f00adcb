use Rattle.elf_binder.proofs.OlderBytes.{older_bytes}
use Rattle.elf_binder.proofs.binding_laws.binding_keeps_older_bytes.Goals as goal

pub returns : goal.returns
returns c = older_bytes
