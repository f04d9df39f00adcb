use Rattle.std.proofs.Common.{◌≡◌, drop}
use Rattle.native_layout.specs.Placed.{greatest_end}
use Rattle.native_layout.proofs.offsets.greatest_end.Given as goal

abbrev pub invariant-loop-range : goal.invariant-loop-range
invariant-loop-range l = greatest_end 0 l.ranges ≡ greatest_end l.end (drop l.range-index l.ranges)
