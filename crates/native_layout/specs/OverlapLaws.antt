-- Laws of overlaps: which fields share a byte.
use Rattle.std.specs.Prelude.{◌≡◌, ◌≢◌, ℕ, ◌<◌, true, false, List, length, slice_index_or, Some, None}
use Rattle.native_layout.specs.declared.extent.Range.{Range}
use Rattle.native_layout.specs.Struct.{first_overlap, share_a_byte}

-- two fields share a byte
abbrev pub Share : List Range → ℕ → ℕ → Range → Type 0
Share rs j k d = share_a_byte (slice_index_or rs j d) (slice_index_or rs k d) ≡ true

-- a field shares a byte with another one
pub record SharesWithAnother (rs : List Range) (k : ℕ) (d : Range) : Type 0 where
  pub other : ℕ
  pub within : other < length rs
  pub apart : other ≢ k
  pub share : Share rs k other d

-- the first overlap is that of the first field that shares a byte with another one
pub record FindsFirst (rs : List Range) : Type 0 where
  pub some : (k : ℕ) (d : Range) → first_overlap rs ≡ Some k → SharesWithAnother rs k d
  pub first : (k i j : ℕ) (d : Range) → first_overlap rs ≡ Some k → i < k → j < length rs → j ≢ i → share_a_byte (slice_index_or rs i d) (slice_index_or rs j d) ≡ false
  pub none : (i j : ℕ) (d : Range) → first_overlap rs ≡ None → i < length rs → j < length rs → j ≢ i → share_a_byte (slice_index_or rs i d) (slice_index_or rs j d) ≡ false

abbrev pub OverlapsAreFound : Type 0
OverlapsAreFound = (rs : List Range) → FindsFirst rs
