-- Where the fields of a struct lie, and when a struct can't be laid out (ECMA-335 II.10.7; ClassLayout, II.22.8;
-- FieldLayout, II.22.16).
use Rattle.std.specs.Prelude.{ℕ, ◌+◌, ◌-◌, ◌*◌, ◌/◌, ◌^◌, min, max, Bool, not, ◌&&◌, ◌==◌, nat_lt, if◌then◌else◌, List, [], ◌∷◌, map, length, slice_get, Option, Some, None, is_none, unwrap_or}
use Rattle.std.specs.List.{list_all, list_any, count_by, position, range_with_len}
use Rattle.std.specs.Option.{option_and_then}
use Rattle.native_layout.specs.declared.extent.Extent.{Extent}
use Rattle.native_layout.specs.declared.extent.Range.{Range}

-- what is known of a shape
pub record Measure : Type 0 where
  pub extent : Extent
  -- it is an integer, or a struct of nothing else
  pub integral : Bool
  -- each struct in it can be laid out
  pub stands : Bool

-- a struct whose fields are measured
pub record Struct : Type 0 where
  pub pack : ℕ
  pub least : ℕ
  pub explicit : Bool
  pub fields : List Measure
  pub offsets : List (Option ℕ)

-- the greatest of some numbers, at least another one
abbrev pub greatest : ℕ → List ℕ → ℕ
greatest least [] = least
greatest least (n ∷ ns) = greatest (max least n) ns

-- the least multiple of a number that is not below n
abbrev pub aligned : ℕ → ℕ → ℕ
aligned n align = (n + (align - 1)) / align * align

-- an alignment that a scalar has
abbrev pub is_align : ℕ → Bool
is_align align = list_any (λ a. a == align) (1 ∷ 2 ∷ 4 ∷ 8 ∷ [])

-- the greatest alignment that a packing leaves to a field; 0 stands for 8
abbrev pub packing : ℕ → ℕ
packing pack = if pack == 0 then 8 else pack

abbrev pub is_packing : ℕ → Bool
is_packing pack = list_any (λ p. p == pack) (0 ∷ 1 ∷ 2 ∷ 4 ∷ 8 ∷ 16 ∷ 32 ∷ 64 ∷ 128 ∷ [])

-- the alignment of a field
abbrev pub field_align : ℕ → Extent → ℕ
field_align pack e = min (packing pack) e.align

-- each field at the least multiple of its alignment that is not before the end of the one before
abbrev pub in_sequence : ℕ → ℕ → List Extent → List Range
in_sequence pack end [] = []
in_sequence pack end (e ∷ es) =
    let start = aligned end (field_align pack e) in
    (record { start = start; end = start + e.size }) ∷ in_sequence pack (start + e.size) es

-- the offset that is written for a field
abbrev pub offset_at : List (Option ℕ) → ℕ → Option ℕ
offset_at offsets k = option_and_then (λ o. o) (slice_get offsets k)

-- the offsets that are written for the first n fields
abbrev pub written : List (Option ℕ) → ℕ → List (Option ℕ)
written offsets n = map (offset_at offsets) (range_with_len 0 n)

-- each field at its offset
abbrev pub at_offsets : List (Option ℕ) → List Extent → List Range
at_offsets [] es = []
at_offsets (o ∷ os) [] = []
at_offsets (o ∷ os) (e ∷ es) =
    (record { start = unwrap_or o 0; end = unwrap_or o 0 + e.size }) ∷ at_offsets os es

abbrev pub extents : Struct → List Extent
extents s = map (λ m. m.extent) s.fields

-- where the fields lie
abbrev pub ranges : Struct → List Range
ranges s =
    if s.explicit
    then at_offsets (written s.offsets (length s.fields)) (extents s)
    else in_sequence s.pack 0 (extents s)

-- the greatest alignment of a field
abbrev pub struct_align : Struct → ℕ
struct_align s = greatest 1 (map (field_align s.pack) (extents s))

-- the greatest end, rounded up to the struct's alignment, or the least size where that is greater
abbrev pub struct_size : Struct → ℕ
struct_size s = max s.least (aligned (greatest 0 (map (λ r. r.end) (ranges s))) (struct_align s))

-- two fields have a byte in common
abbrev pub share_a_byte : Range → Range → Bool
share_a_byte a b = nat_lt (max a.start b.start) (min a.end b.end)

-- a field has a byte in common with more than one field, itself counted
abbrev pub overlaps_another : List Range → Range → Bool
overlaps_another rs r = nat_lt 1 (count_by (share_a_byte r) rs)

-- the first field that overlaps another one
abbrev pub first_overlap : List Range → Option ℕ
first_overlap rs = position (overlaps_another rs) rs

abbrev pub is_integral : Struct → Bool
is_integral s = list_all (λ m. m.integral) s.fields

-- the greatest size of a struct, in bytes
abbrev pub largest : ℕ
largest = 2 ^ 20

abbrev pub first_some : List (Option ℕ) → Option ℕ
first_some [] = None
first_some (Some k ∷ os) = Some k
first_some (None ∷ os) = first_some os

-- a rule that speaks of no field
abbrev pub broken_where : Bool → Option ℕ
broken_where holds = if holds then Some 0 else None

-- the first field that overlaps another one, where fields lie at their offsets and there are not only integers
abbrev pub overlap_of : Struct → Option ℕ
overlap_of s = if s.explicit && not (is_integral s) then first_overlap (ranges s) else None

-- The first field that breaks the first broken rule: a struct within that can't be laid out; no fields; a packing that is
-- none; no offset where each must have one; an overlap of written offsets, unless there are only integers; a size that is
-- too great. Fields in sequence never overlap.
abbrev pub broken : Struct → Option ℕ
broken s =
    first_some (position (λ m. not m.stands) s.fields
    ∷ broken_where (length s.fields == 0)
    ∷ broken_where (not (is_packing s.pack))
    ∷ (if s.explicit then position is_none (written s.offsets (length s.fields)) else None)
    ∷ overlap_of s
    ∷ broken_where (nat_lt largest (struct_size s))
    ∷ [])

abbrev pub struct_measure : Struct → Measure
struct_measure s = record {
  extent = record { size = struct_size s; align = struct_align s };
  integral = is_integral s;
  stands = is_none (broken s);
}
