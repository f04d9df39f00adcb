use Rattle.std.proofs.Common.{◌≡◌, ◌++◌}
use Rattle.elf_binder.proofs.Initials.{entries_in}
use Rattle.elf_binder.proofs.initializers.add_array.Given as goal

abbrev pub invariant-loop-k : goal.invariant-loop-k
invariant-loop-k l = l.inits ≡ l.initial.inits ++ entries_in l.array l.k
