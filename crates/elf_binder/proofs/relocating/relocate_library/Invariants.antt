use Rattle.std.proofs.Common.{map}
use Rattle.elf_reader.specs.Elf.{relocation_of}
use Rattle.elf_binder.specs.Relocating.{relocate}
use Rattle.elf_binder.specs.Sources.{source_of}
use Rattle.elf_binder.proofs.StepByStep.{Came}
use Rattle.elf_binder.proofs.relocating.relocate_library.Given as goal

abbrev pub invariant-loop-r : goal.invariant-loop-r
invariant-loop-r l = Came (relocate l.modules (source_of l.source) l.base) l.initial.memory.space (map relocation_of l.source.elf.now.relocs) l.memory.space l.r-index
