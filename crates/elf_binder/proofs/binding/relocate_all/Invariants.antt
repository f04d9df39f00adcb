use Rattle.std.specs.Prelude.{zip}
use Rattle.elf_binder.specs.Relocating.{relocate_library}
use Rattle.elf_binder.proofs.StepByStep.{Came}
use Rattle.elf_binder.proofs.binding.relocate_all.Given as goal

abbrev pub invariant-loop-number : goal.invariant-loop-number
invariant-loop-number l = Came (relocate_library l.modules) l.initial.memory.space (zip l.sources l.bases) l.memory.space l.number
