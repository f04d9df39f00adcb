use Rattle.std.proofs.Common.{[]}
use Rattle.std.specs.Prelude.{zip}
use Rattle.elf_binder.specs.Binding.{and_initializers}
use Rattle.elf_binder.proofs.StepByStep.{Came}
use Rattle.elf_binder.proofs.binding.initializers.Given as goal

abbrev pub invariant-loop-number : goal.invariant-loop-number
invariant-loop-number l = Came (and_initializers l.memory.space) [] (zip l.sources l.bases) l.inits l.number
