use Rattle.std.proofs.Common.{◌≤◌}
use Rattle.elf_reader.proofs.symbols.check_names.Given as goal

abbrev pub invariant-loop-k : goal.invariant-loop-k
invariant-loop-k l = l.total ≤ 1073741824
