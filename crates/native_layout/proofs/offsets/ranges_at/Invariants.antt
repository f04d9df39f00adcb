use Rattle.std.proofs.Common.{◌≡◌, ◌++◌, drop}
use Rattle.native_layout.specs.Struct.{at_offsets}
use Rattle.native_layout.proofs.offsets.ranges_at.Given as goal

abbrev pub invariant-loop-k : goal.invariant-loop-k
invariant-loop-k l =
    at_offsets l.offsets l.extents ≡ l.ranges.items ++ at_offsets (drop l.k l.offsets) (drop l.k l.extents)
