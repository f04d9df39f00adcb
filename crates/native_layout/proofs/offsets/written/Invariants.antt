use Rattle.std.proofs.Common.{◌≡◌, ℕ, ◌<◌, ◌^◌, false}
use Rattle.std.specs.Prelude.{is_none, unwrap_or}
use Rattle.native_layout.specs.Struct.{offset_at, written}
use Rattle.native_layout.proofs.offsets.written.Given as goal

abbrev pub invariant-loop-k : goal.invariant-loop-k
invariant-loop-k l = record {
  value : l.all ≡ written l.offsets l.k;
  each : (j : ℕ) → j < l.k → is_none (offset_at l.offsets j) ≡ false;
  small : (j : ℕ) → j < l.k → unwrap_or (offset_at l.offsets j) 0 < 2 ^ 32;
}
