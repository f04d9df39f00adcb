use Rattle.std.proofs.Common.{◌≡◌, ◌*◌, ◌<◌, ◌%◌, ℕ}
use Rattle.byte_view.specs.Numbers.{le}
use Rattle.elf_reader.proofs.hashes.chain_length.Given as goal

abbrev pub invariant-loop-k : goal.invariant-loop-k
invariant-loop-k l = (j : ℕ) → j < l.k → le l.chain (4 * j) 4 % 2 ≡ 0
