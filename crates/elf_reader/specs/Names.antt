-- The zeros at which names end.
use Rattle.std.specs.Prelude.{◌≡◌, ℕ, ◌+◌, ◌*◌, ◌/◌, ◌<◌, ◌≤◌, List, length, slice_index}

-- the first zero of some bytes from an index on stands at another, which is their end where
-- there is none
pub record IsFirstZero (bytes : List ℕ) (at zero : ℕ) : Type 0 where
  pub from : at ≤ zero
  pub within : zero ≤ length bytes
  pub others : (k : ℕ) → at ≤ k → k < zero → 0 < slice_index bytes k
  pub is_zero : zero < length bytes → slice_index bytes zero ≡ 0

-- the first zeros from the start of each block of 64 bytes on
pub record AreOf (bytes from_block : List ℕ) : Type 0 where
  pub count : length from_block ≡ length bytes / 64 + 1
  pub each : (block : ℕ) → 64 * block ≤ length bytes
      → IsFirstZero bytes (64 * block) (slice_index from_block block)
