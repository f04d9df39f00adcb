use Rattle.std.proofs.Common.{◌∙◌, sym}
use Rattle.elf_reader.specs.Elf.{relocation_of}
use Rattle.elf_binder.specs.Sources.{source_of}
use Rattle.elf_binder.proofs.Writing.{no_kind, nothing_written, written_as, some_width}
use Rattle.elf_binder.proofs.relocating.relocate.Goals as goal

pub returns-in_default : goal.returns-in_default
returns-in_default c =
    rw c.broken.ensures (no_kind c.args.modules.now (source_of c.args.source.now) c.args.base c.args.memory.now.space (relocation_of c.args.r.now) (sym c.of.ensures ∙ c.in_default.is))

pub returns-then-eq : goal.returns-then-eq
returns-then-eq c =
    nothing_written c.args.modules.now (source_of c.args.source.now) c.args.base c.args.memory.now.space (relocation_of c.args.r.now) c.in-Some.kind (sym c.of.ensures ∙ c.in-Some.is) (sym c.eq.ensures ∙ c.if-eq.true)

pub write_relocation-requires-clause-some : goal.write_relocation-requires-clause-some
write_relocation-requires-clause-some c = some_width c.in-Some.kind (sym c.eq.ensures ∙ c.if-eq.false)

pub returns : goal.returns
returns c =
    rw (written_as c.args.modules.now (source_of c.args.source.now) c.args.base c.args.memory.now.space (relocation_of c.args.r.now) c.in-Some.kind (sym c.of.ensures ∙ c.in-Some.is) (sym c.eq.ensures ∙ c.if-eq.false))
    c.write_relocation.ensures
