use Rattle.std.proofs.Common.{◌≡◌, ℕ, ◌<◌, false, get_or}
use Rattle.native_layout.specs.Struct.{overlaps_another}
use Rattle.native_layout.proofs.overlap.first_sharing.Given as goal

abbrev pub invariant-loop-k : goal.invariant-loop-k
invariant-loop-k l =
    (j : ℕ) → j < l.k → overlaps_another l.ranges (get_or l.ranges j (record { start = 0; end = 0 })) ≡ false
