use Rattle.std.proofs.Common.{arith, refl, lit≤}
use Rattle.native_memory.specs.AddressSpace.{live_bytes}
use Rattle.native_memory.proofs.memory.Memory.new.Goals as goal

pub invariant_of-result : goal.invariant_of-result
unfolding live_bytes
invariant_of-result c = rw c.new.ensures.items (record {
  sound = record { apart = omega arith; whole = λ k d within. absurd (omega arith); edge = omega arith; next = lit≤ tt; room = omega arith };
  live = refl;
})
