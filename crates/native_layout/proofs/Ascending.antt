-- Lemmas on fields in sequence.
use Rattle.std.proofs.Common.{◌≡◌, ℕ, zero, suc, ◌+◌, ◌-◌, ◌/◌, ◌%◌, ◌≤◌, ◌<◌, min, max, false, ◌==◌, List, [], ◌∷◌, map, length, get_or, arith, inl, inr, refl, ◌∙◌, ap}
use Rattle.std.proofs.lemmas.Bool.Decides.{nat_tests}
use Rattle.std.proofs.Math.Nat.{mul-mod_left}
use Rattle.native_layout.specs.declared.extent.Extent.{Extent}
use Rattle.native_layout.specs.declared.extent.Range.{Range}
use Rattle.native_layout.specs.Struct.{Struct, aligned, extents, field_align, greatest, in_sequence, packing, ranges, struct_align, struct_size}
use Rattle.native_layout.specs.Laws.{FieldsAscend, FieldsLieWithin, HaveAligns, PackingOneLeavesNoGaps, SizesAreMultiples}
use Rattle.native_layout.proofs.Counts.{decided}
use Rattle.native_layout.proofs.Numbers.{greatest-least}

positive : (n : ℕ) → (n == 0) ≡ false → 0 < n
positive n h = grind (arith, nat_tests)

packing_above : (pack : ℕ) → 0 < packing pack
packing_above pack = elim (decided (pack == 0)) [
  | inl none ↦ rw none (omega arith)
  | inr some ↦ let h : 0 < pack = positive pack some in rw some h
]

align_above : (pack : ℕ) (e : Extent) → 0 < e.align → 0 < field_align pack e
align_above pack e h = omega (arith, packing_above pack)

round_above : (n align : ℕ) → 0 < align → n ≤ aligned n align
round_above n align some = omega arith

begins_after : (pack end : ℕ) (es : List Extent) (k : ℕ) (d : Range) → HaveAligns es → k < length es → end ≤ (get_or (in_sequence pack end es) k d).start
begins_after pack end [] k d have lt = absurd (omega arith)
begins_after pack end (e ∷ es) zero d have lt = round_above end (field_align pack e) (align_above pack e (have 0 e (omega arith)))
begins_after pack end (e ∷ es) (suc k) d have lt =
    let start : ℕ = aligned end (field_align pack e) in
    let here : end ≤ start = round_above end (field_align pack e) (align_above pack e (have 0 e (omega arith))) in
    let rest : start + e.size ≤ (get_or (in_sequence pack (start + e.size) es) k d).start =
    begins_after pack (start + e.size) es k d (λ j x h. have (suc j) x (omega arith)) (omega arith) in
    omega (arith, here, rest)

lie_apart : (pack end : ℕ) (es : List Extent) (j k : ℕ) (d : Range) → HaveAligns es → j < k → k < length es
    → (get_or (in_sequence pack end es) j d).end ≤ (get_or (in_sequence pack end es) k d).start
lie_apart pack end [] j k d have less lt = absurd (omega arith)
lie_apart pack end (e ∷ es) j zero d have less lt = absurd (omega arith)
lie_apart pack end (e ∷ es) zero (suc k) d have less lt =
    begins_after pack (aligned end (field_align pack e) + e.size) es k d (λ i x h. have (suc i) x (omega arith)) (omega arith)
lie_apart pack end (e ∷ es) (suc j) (suc k) d have less lt =
    lie_apart pack (aligned end (field_align pack e) + e.size) es j k d (λ i x h. have (suc i) x (omega arith)) (omega arith) (omega arith)

have_sizes : (pack end : ℕ) (es : List Extent) (k : ℕ) (d : Range) (x : Extent) → k < length es
    → (get_or (in_sequence pack end es) k d).end ≡ (get_or (in_sequence pack end es) k d).start + (get_or es k x).size
have_sizes pack end [] k d x lt = absurd (omega arith)
have_sizes pack end (e ∷ es) zero d x lt = refl
have_sizes pack end (e ∷ es) (suc k) d x lt = have_sizes pack (aligned end (field_align pack e) + e.size) es k d x (omega arith)

are_multiples : (pack end : ℕ) (es : List Extent) (k : ℕ) (d : Range) (x : Extent) → k < length es
    → (get_or (in_sequence pack end es) k d).start % field_align pack (get_or es k x) ≡ 0
are_multiples pack end [] k d x lt = absurd (omega arith)
are_multiples pack end (e ∷ es) zero d x lt = mul-mod_left ((end + (field_align pack e - 1)) / field_align pack e) (field_align pack e)
are_multiples pack end (e ∷ es) (suc k) d x lt = are_multiples pack (aligned end (field_align pack e) + e.size) es k d x (omega arith)

as_many : (pack end : ℕ) (es : List Extent) → length (in_sequence pack end es) ≡ length es
as_many pack end [] = refl
as_many pack end (e ∷ es) = ap suc (as_many pack (aligned end (field_align pack e) + e.size) es)

pub fields_ascend : FieldsAscend
fields_ascend pack es have = record {
  count = as_many pack 0 es;
  apart = λ j k d less lt. lie_apart pack 0 es j k d have less lt;
  sized = λ k d e lt. have_sizes pack 0 es k d e lt;
  aligned = λ k d e lt. are_multiples pack 0 es k d e lt;
}

one_round : (end : ℕ) (e : Extent) → 0 < e.align → aligned end (field_align 1 e) ≡ end
one_round end e h =
    let one : min 1 e.align ≡ 1 = omega arith in
    rw one (omega arith)

first_at : (end : ℕ) (es : List Extent) (d : Range) → HaveAligns es → 0 < length es → (get_or (in_sequence 1 end es) 0 d).start ≡ end
first_at end [] d have lt = absurd (omega arith)
first_at end (e ∷ es) d have lt = one_round end e (have 0 e (omega arith))

next_at : (end : ℕ) (es : List Extent) (k : ℕ) (d : Range) → HaveAligns es → suc k < length es
    → (get_or (in_sequence 1 end es) (suc k) d).start ≡ (get_or (in_sequence 1 end es) k d).end
next_at end [] k d have lt = absurd (omega arith)
next_at end (e ∷ es) zero d have lt =
    first_at (aligned end (field_align 1 e) + e.size) es d (λ i x h. have (suc i) x (omega arith)) (omega arith)
next_at end (e ∷ es) (suc k) d have lt =
    next_at (aligned end (field_align 1 e) + e.size) es k d (λ i x h. have (suc i) x (omega arith)) (omega arith)

pub no_gaps : PackingOneLeavesNoGaps
no_gaps es have = record {
  first = λ d lt. first_at 0 es d have lt;
  next = λ k d lt.
      let one : k + 1 ≡ suc k = omega arith in
      ap (λ n. (get_or (in_sequence 1 0 es) n d).start) one ∙ next_at 0 es k d have (omega arith);
}

align_one : (s : Struct) → 0 < struct_align s
align_one s = let h : 1 ≤ struct_align s = greatest-least 1 (map (field_align s.pack) (extents s)) in h

greater : (a b : ℕ) → a ≤ b → max a b ≡ b
greater a b p = omega arith

pub multiples : SizesAreMultiples
multiples s least =
    let end : ℕ = greatest 0 (map (λ r. r.end) (ranges s)) in
    let is : struct_size s ≡ aligned end (struct_align s) = greater s.least (aligned end (struct_align s)) least in
    ap (λ n. n % struct_align s) is ∙ mul-mod_left ((end + (struct_align s - 1)) / struct_align s) (struct_align s)

ends_under : (least : ℕ) (rs : List Range) (k : ℕ) (d : Range) → k < length rs → (get_or rs k d).end ≤ greatest least (map (λ r. r.end) rs)
ends_under least [] k d lt = absurd (omega arith)
ends_under least (r ∷ rs) zero d lt = omega (arith, greatest-least (max least r.end) (map (λ x. x.end) rs))
ends_under least (r ∷ rs) (suc k) d lt = ends_under (max least r.end) rs k d (omega arith)

pub lie_within : FieldsLieWithin
lie_within s k d lt =
    let end : ℕ = greatest 0 (map (λ r. r.end) (ranges s)) in
    let under : (get_or (ranges s) k d).end ≤ end = ends_under 0 (ranges s) k d lt in
    let above : end ≤ aligned end (struct_align s) = round_above end (struct_align s) (align_one s) in
    omega (arith, under, above)
