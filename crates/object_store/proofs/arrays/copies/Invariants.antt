-- the copies so far
use Rattle.std.proofs.Common.{◌≡◌, replicate}
use Rattle.object_store.proofs.arrays.copies.Given as goal

abbrev pub invariant-loop : goal.invariant-loop
invariant-loop l = l.copies ≡ replicate l.counter l.value
