-- What the code says of where fields lie.
use Rattle.std.specs.Prelude.{◌≡◌, ℕ, ◌^◌, ◌-◌, ◌≤◌, ◌<◌, min, max, Bool, true, false, not, ◌&&◌, ◌==◌, IsTrue, nat_lt, List, map, length, All, Option, Some, None, is_none, unwrap_or, Result, Ok, Err, ⊤, Vec}
use Rattle.std.specs.Option.{option_map}
use Rattle.std.specs.List.{count_by, position}
use Rattle.std.specs.List.Sorted.{IsNonDecreasing}
use Rattle.std.specs.declared.alloc.Global.{Global}
use Rattle.native_layout.specs.declared.extent.Extent.{Extent}
use Rattle.native_layout.specs.declared.extent.Range.{Range}
use Rattle.native_layout.specs.declared.placing.Placed.{Placed}
use Rattle.native_layout.specs.declared.shapes.Layout.{Layout}
use Rattle.native_layout.specs.declared.refused.LayoutBad.{LayoutBad}
use Rattle.native_layout.specs.declared.refused.LayoutBad.TheVariants.{Outside, Memory}
use Rattle.native_layout.specs.Struct.{Measure, Struct, greatest, in_sequence, largest, is_align, is_packing, aligned, written, offset_at, broken_where, broken, extents, ranges, field_align}
use Rattle.native_layout.specs.Shapes.{measured, struct_in_order}
use Rattle.native_layout.specs.declared.shapes.StructShape.{StructShape}
use Rattle.native_layout.specs.Answer.{told, laid_unless}

abbrev pub starts : List Range → List (Option ℕ)
starts rs = map (λ r. Some r.start) rs

abbrev pub greatest_end : ℕ → List Range → ℕ
greatest_end least rs = greatest least (map (λ r. r.end) rs)

pub record AreAt (rs : List Range) (p : Placed) : Type 0 where
  pub offsets : p.offsets ≡ starts rs
  pub end : p.end ≡ greatest_end 0 rs

pub record IsFilled (rs : List Range) (p : Placed) : Type 0 where
  pub at : AreAt rs p
  pub within : p.end ≤ largest

pub record PassesLargest (rs : List Range) (field : ℕ) : Type 0 where
  pub first : field ≡ 0
  pub beyond : largest < greatest_end 0 rs

-- fields in sequence are placed, or pass the greatest size of a struct
abbrev pub IsSequence : ℕ → List Extent → Result Placed LayoutBad → Type 0
IsSequence pack es (Ok p) = IsFilled (in_sequence pack 0 es) p
IsSequence pack es (Err (Outside field)) = PassesLargest (in_sequence pack 0 es) field
IsSequence pack es (Err Memory) = ⊤

-- an extent as the code counts it while it looks for overlaps: a size of 2^32 or more counts as 2^32
abbrev pub cap : Extent → Extent
cap e = record { size = min e.size (2 ^ 32); align = e.align }

-- the extents of fields that stand
pub record AreExtents (ms : List Measure) (es : List Extent) : Type 0 where
  pub stand : position (λ m. not m.stands) ms ≡ None
  pub extents : es ≡ map cap (map (λ m. m.extent) ms)
  pub aligns : All (λ e. IsTrue (is_align e.align)) es

abbrev pub Measures : List Measure → Result (Vec Extent Global) LayoutBad → Type 0
Measures ms (Ok v) = AreExtents ms v.items
Measures ms (Err (Outside field)) = option_map told (position (λ m. not m.stands) ms) ≡ Some field
Measures ms (Err Memory) = ⊤

-- the extent of a shape that stands
pub record IsExtent (m : Measure) (e : Extent) : Type 0 where
  pub stands : m.stands ≡ true
  pub extent : e ≡ cap m.extent
  pub align : IsTrue (is_align e.align)

abbrev pub IsMeasured : Measure → Result Extent LayoutBad → Type 0
IsMeasured m (Ok e) = IsExtent m e
IsMeasured m (Err (Outside field)) = m.stands ≡ false
IsMeasured m (Err Memory) = ⊤

-- no rule is broken up to the packing
pub record HasFields (s : Struct) : Type 0 where
  pub nested : position (λ m. not m.stands) s.fields ≡ None
  pub some : (length s.fields == 0) ≡ false
  pub packing : is_packing s.pack ≡ true

pub record AreWritten (offsets : List (Option ℕ)) (n : ℕ) (os : List (Option ℕ)) : Type 0 where
  pub value : os ≡ written offsets n
  pub each : (j : ℕ) → j < n → is_none (offset_at offsets j) ≡ false
  pub small : (j : ℕ) → j < n → unwrap_or (offset_at offsets j) 0 < 2 ^ 32

abbrev pub IsWritten : List (Option ℕ) → ℕ → Result (List (Option ℕ)) LayoutBad → Type 0
IsWritten offsets n (Ok os) = AreWritten offsets n os
IsWritten offsets n (Err (Outside field)) = option_map told (position is_none (written offsets n)) ≡ Some field
IsWritten offsets n (Err Memory) = ⊤

-- the layout of fields at offsets up to an end, or the refusal of its size
abbrev pub finished : List (Option ℕ) → ℕ → ℕ → ℕ → Result Layout ℕ
finished offsets end align least =
    let size = max least (aligned end align) in
    laid_unless (broken_where (nat_lt largest size)) (record { offsets = offsets; size = size; align = align })

-- the size and the alignment of a shape that stands, a size as far as 64 bits tell it
pub record HasSize (m : Measure) (e : Extent) : Type 0 where
  pub size : e.size ≡ min m.extent.size (2 ^ 64 - 1)
  pub align : e.align ≡ m.extent.align
  pub good : IsTrue (is_align e.align)

pub record StandsInOrder (s : StructShape) : Type 0 where
  pub order : IsTrue (struct_in_order s)
  pub stands : broken (measured s) ≡ None

-- the greatest end of some fields and their greatest alignment
pub record Take (pack : ℕ) (es : List Extent) (rs : List Range) (e : Extent) : Type 0 where
  pub size : e.size ≡ greatest_end 0 rs
  pub align : e.align ≡ greatest 1 (map (field_align pack) es)
  pub good : IsTrue (is_align e.align)
  pub within : e.size ≤ largest

abbrev pub FieldsTake : Struct → Extent → Type 0
FieldsTake s e = Take s.pack (extents s) (ranges s) e

-- a field has bytes
abbrev pub is_filled : Range → Bool
is_filled r = nat_lt r.start r.end

-- the numbers, in order, that the fields with bytes have
pub record AreSorted (number : Range → ℕ) (rs : List Range) (xs : List ℕ) : Type 0 where
  pub ascend : IsNonDecreasing xs
  pub counts : (p : ℕ → Bool) → count_by p xs ≡ count_by (λ r. is_filled r && p (number r)) rs
