use Rattle.std.proofs.Common.{◌≡◌, ◌++◌}
use Rattle.image_kit.specs.AssemblyFile.{zeros}
use Rattle.image_kit.proofs.put.put_zeros.Given as goal

abbrev pub invariant-loop : goal.invariant-loop
invariant-loop l = l.out ≡ l.fn.out ++ zeros l.counter
