use Rattle.std.specs.Prelude.{zip}
use Rattle.elf_binder.proofs.PlacedLists.{Named}
use Rattle.elf_binder.proofs.binding.modules.Given as goal

abbrev pub invariant-loop-number : goal.invariant-loop-number
invariant-loop-number l = Named (zip l.sources l.bases) l.modules l.number
