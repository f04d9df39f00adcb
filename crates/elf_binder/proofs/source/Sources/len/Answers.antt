use Rattle.std.proofs.Common.{sym}
use Rattle.elf_binder.proofs.SourceLists.{count_joined}
use Rattle.elf_binder.proofs.source.Sources.len.Goals as goal

pub returns-clause-count : goal.returns-clause-count
returns-clause-count c =
    let i = c.self.inside in
    rw (← c.self.view_is) (sym (count_joined i.elfs.now i.files.now i.names.now c.self.invariant.0 c.self.invariant.1))
