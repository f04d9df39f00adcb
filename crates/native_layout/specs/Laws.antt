-- Laws of where fields lie.
use Rattle.std.specs.Prelude.{◌≡◌, ℕ, ◌+◌, ◌%◌, ◌≤◌, ◌<◌, List, map, length, All, slice_index_or}
use Rattle.native_layout.specs.declared.extent.Extent.{Extent}
use Rattle.native_layout.specs.declared.extent.Range.{Range}
use Rattle.native_layout.specs.Struct.{Struct, aligned, greatest, field_align, in_sequence, ranges, struct_align, struct_size}

-- each alignment is above 0
abbrev pub HaveAligns : List Extent → Type 0
HaveAligns es = All (λ e. 0 < e.align) es

-- fields in sequence ascend, take their sizes, and lie at multiples of their alignments
pub record Ascend (pack : ℕ) (es : List Extent) (rs : List Range) : Type 0 where
  pub count : length rs ≡ length es
  pub apart : (j k : ℕ) (d : Range) → j < k → k < length es → (slice_index_or rs j d).end ≤ (slice_index_or rs k d).start
  pub sized : (k : ℕ) (d : Range) (e : Extent) → k < length es → (slice_index_or rs k d).end ≡ (slice_index_or rs k d).start + (slice_index_or es k e).size
  pub aligned : (k : ℕ) (d : Range) (e : Extent) → k < length es → (slice_index_or rs k d).start % field_align pack (slice_index_or es k e) ≡ 0

abbrev pub FieldsAscend : Type 0
FieldsAscend = (pack : ℕ) (es : List Extent) → HaveAligns es → Ascend pack es (in_sequence pack 0 es)

-- with packing 1 each field begins where the one before ends, and the first at 0
pub record HaveNoGaps (count : ℕ) (rs : List Range) : Type 0 where
  pub first : (d : Range) → 0 < count → (slice_index_or rs 0 d).start ≡ 0
  pub next : (k : ℕ) (d : Range) → k + 1 < count → (slice_index_or rs (k + 1) d).start ≡ (slice_index_or rs k d).end

abbrev pub PackingOneLeavesNoGaps : Type 0
PackingOneLeavesNoGaps = (es : List Extent) → HaveAligns es → HaveNoGaps (length es) (in_sequence 1 0 es)

-- the size is a multiple of the alignment, unless a greater least size is set
abbrev pub SizesAreMultiples : Type 0
SizesAreMultiples =
    (s : Struct) → s.least ≤ aligned (greatest 0 (map (λ r. r.end) (ranges s))) (struct_align s) → struct_size s % struct_align s ≡ 0

-- no field ends after its struct
abbrev pub FieldsLieWithin : Type 0
FieldsLieWithin = (s : Struct) (k : ℕ) (d : Range) → k < length (ranges s) → (slice_index_or (ranges s) k d).end ≤ struct_size s
