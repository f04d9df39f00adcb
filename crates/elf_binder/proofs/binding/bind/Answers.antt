use Rattle.elf_binder.proofs.SourceLists.{all_read}
use Rattle.elf_binder.proofs.binding.bind.Goals as goal

pub bind_all-requires : goal.bind_all-requires
bind_all-requires c = rw c.joined.ensures (all_read 0 c.args.elfs.now c.args.files.now c.args.names.now c.requires.read)

pub returns-clause-bound : goal.returns-clause-bound
returns-clause-bound c = rw c.joined.ensures at c.bind_all.ensures.bound

pub returns-clause-memory : goal.returns-clause-memory
returns-clause-memory c = rw c.joined.ensures at c.bind_all.ensures.memory
