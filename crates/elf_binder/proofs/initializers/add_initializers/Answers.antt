use Rattle.std.proofs.Common.{sym, inl, inr, arith}
use Rattle.elf_binder.specs.Sources.{source_of}
use Rattle.elf_binder.proofs.InFile.{stands_in}
use Rattle.elf_binder.proofs.Initials.{not_readable, all_initials}
use Rattle.elf_binder.proofs.initializers.add_initializers.Goals as goal

pub overflow_add-source : goal.overflow_add-source
overflow_add-source c =
    elim (stands_in c.args.source.now.file.now (source_of c.args.source.now).library c.requires).array [
      | inl none ↦ omega (arith, none)
      | inr inside ↦ omega (arith, inside)
    ]

pub returns-in_default : goal.returns-in_default
returns-in_default c =
    rw c.broken.ensures (not_readable c.args.memory.now.space c.args.inits.now (source_of c.args.source.now) c.args.base (sym c.in_default.ensures.value))

pub returns : goal.returns
returns c =
    all_initials c.args.memory.now.space c.args.inits.now (source_of c.args.source.now) c.args.base c.in-Some.array.now c.add_first.new.inits c.add_array.new.inits (sym c.in-Some.ensures.value) c.in_ok-add_first.ensures
    c.in_ok-add_array.ensures
