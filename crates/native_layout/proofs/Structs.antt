-- Lemmas on the rules of a struct, and on extents that are counted up to 2^32.
use Rattle.std.proofs.Common.{◌≡◌, ℕ, zero, suc, ◌+◌, ◌-◌, ◌*◌, ◌^◌, ◌≤◌, ◌<◌, min, max, Bool, true, false, not, ◌&&◌, ◌||◌, ◌==◌, nat_lt, IsTrue, List, [], ◌∷◌, ◌++◌, map, length, Option, Some, None, is_none, All, drop, get_or, drop-cons, append_assoc, unwrap_or, Result, Ok, Err, arith, inl, inr, if◌then◌else◌, refl, sym, ◌∙◌, ap, subst}
use Rattle.std.proofs.lemmas.Bool.Decides.{nat_tests}
use Rattle.std.proofs.lemmas.List.FromFn.{length-map-range_with_len}
use Rattle.std.proofs.lemmas.List.{length-map, get_or-map, append-nil, drop_all}
use Rattle.std.proofs.lemmas.List.Elements.{All-head, All-map, All-tail}
use Rattle.std.specs.Result.{IsErrAnd}
use Rattle.native_layout.specs.declared.shapes.Shape.{Shape}
use Rattle.native_layout.specs.Shapes.{extents_of, measure, measured, repeated, scalar, stands}
use Rattle.std.specs.List.{list_any, position, prefix_len, count_by, range_with_len, list_all, position_or_len}
use Rattle.std.proofs.lemmas.List.Sums.{fails_before_first}
use Rattle.native_layout.specs.declared.shapes.StructShape.{StructShape}
use Rattle.native_layout.specs.declared.extent.Extent.{Extent}
use Rattle.native_layout.specs.declared.extent.Range.{Range}
use Rattle.native_layout.specs.declared.placing.Placed.{Placed}
use Rattle.native_layout.specs.declared.shapes.Layout.{Layout}
use Rattle.native_layout.specs.declared.refused.LayoutBad.{LayoutBad}
use Rattle.native_layout.specs.declared.refused.LayoutBad.TheVariants.{Outside, Memory}
use Rattle.native_layout.specs.Struct.{Measure, Struct, greatest, aligned, is_align, is_packing, packing, is_integral, share_a_byte, overlaps_another, first_overlap, field_align, in_sequence, at_offsets, offset_at, written, extents, ranges, largest, struct_align, struct_size, struct_measure, broken, broken_where, first_some, overlap_of}
use Rattle.native_layout.specs.Answer.{Answers, Passes, told, laid, laid_unless}
use Rattle.native_layout.specs.Placed.{HasFields, AreWritten, IsFilled, IsWritten, IsExtent, IsMeasured, IsSequence, cap, finished, greatest_end, starts, FieldsTake, HasSize}
use Rattle.native_layout.proofs.Counts.{decided, count_by-cons}
use Rattle.native_layout.proofs.Positions.{missing_none}
use Rattle.native_layout.proofs.Numbers.{aligned_above, greatest-least}

-- ---- extents that are counted up to 2^32

pub has_large : List Extent → Bool
has_large es = list_any (λ e. nat_lt largest e.size) es

cap_small : (e : Extent) → nat_lt largest e.size ≡ false → cap e ≡ e
cap_small e small = let is : min e.size (2 ^ 32) ≡ e.size = grind (arith, nat_tests) in rw is refl

cap_keeps : (e : Extent) → nat_lt largest (cap e).size ≡ nat_lt largest e.size
cap_keeps e = grind (arith, nat_tests)

or_false : (a b : Bool) → (a || b) ≡ false → (a ≡ false) × (b ≡ false)
or_false true b h = (h, absurd (cc))
or_false false b h = (refl, h)

pub capped_small : (es : List Extent) → has_large es ≡ false → map cap es ≡ es
unfolding has_large
capped_small [] small = refl
capped_small (e ∷ es) small =
    let parts : (nat_lt largest e.size ≡ false) × (has_large es ≡ false) = or_false _ _ small in
    rw (cap_small e parts.0, capped_small es parts.1) refl

pub capped_large : (es : List Extent) → has_large (map cap es) ≡ has_large es
unfolding has_large
capped_large [] = refl
capped_large (e ∷ es) = rw (cap_keeps e, capped_large es) refl

pub aligns_capped : (pack : ℕ) (es : List Extent) → map (field_align pack) (map cap es) ≡ map (field_align pack) es
aligns_capped pack [] = refl
aligns_capped pack (e ∷ es) = ap (λ ns. field_align pack e ∷ ns) (aligns_capped pack es)

-- a large field has a large end
pub large_in_sequence : (pack end reach : ℕ) (es : List Extent) → has_large es ≡ true → largest < greatest_end reach (in_sequence pack end es)
unfolding has_large
large_in_sequence pack end reach [] large = absurd (cc)
large_in_sequence pack end reach (e ∷ es) large = elim (decided (nat_lt largest e.size)) [
  | inl here ↦
      let over : largest < e.size = grind (arith, nat_tests) in
      let next : ℕ = aligned end (field_align pack e) + e.size in
      omega (arith, greatest-least (max reach next) (map (λ r. r.end) (in_sequence pack next es)))
  | inr small ↦
      let next : ℕ = aligned end (field_align pack e) + e.size in
      let rest : has_large es ≡ true = rw small at large in
      large_in_sequence pack next (max reach next) es rest
]

pub large_at_offsets : (os : List (Option ℕ)) (reach : ℕ) (es : List Extent) → length os ≡ length es → has_large es ≡ true
    → largest < greatest_end reach (at_offsets os es)
unfolding has_large
large_at_offsets os reach [] each large = absurd (cc)
large_at_offsets [] reach (e ∷ es) each large = absurd (omega arith)
large_at_offsets (o ∷ os) reach (e ∷ es) each large = elim (decided (nat_lt largest e.size)) [
  | inl here ↦
      let over : largest < e.size = grind (arith, nat_tests) in
      omega (arith, greatest-least (max reach (unwrap_or o 0 + e.size)) (map (λ r. r.end) (at_offsets os es)))
  | inr small ↦
      let rest : has_large es ≡ true = rw small at large in
      large_at_offsets os (max reach (unwrap_or o 0 + e.size)) es (omega arith) rest
]

-- ---- the rules in their order

last_rule : (a b c d e : Option ℕ) (test : Bool) → a ≡ None → b ≡ None → c ≡ None → d ≡ None → e ≡ None
    → first_some (a ∷ b ∷ c ∷ d ∷ e ∷ broken_where test ∷ []) ≡ broken_where test
last_rule a b c d e true p q r t u = rw (p, q, r, t, u) refl
last_rule a b c d e false p q r t u = rw (p, q, r, t, u) refl

fourth_rule : (a b c d : Option ℕ) (rest : List (Option ℕ)) (k : ℕ) → a ≡ None → b ≡ None → c ≡ None → d ≡ Some k
    → first_some (a ∷ b ∷ c ∷ d ∷ rest) ≡ Some k
fourth_rule a b c d rest k p q r t = rw (p, q, r, t) refl

fifth_rule : (a b c d e : Option ℕ) (rest : List (Option ℕ)) (k : ℕ) → a ≡ None → b ≡ None → c ≡ None → d ≡ None → e ≡ Some k
    → first_some (a ∷ b ∷ c ∷ d ∷ e ∷ rest) ≡ Some k
fifth_rule a b c d e rest k p q r t u = rw (p, q, r, t, u) refl

some_fields : (s : Struct) → HasFields s → broken_where (length s.fields == 0) ≡ None
some_fields s h = rw h.some refl

good_packing : (s : Struct) → HasFields s → broken_where (not (is_packing s.pack)) ≡ None
good_packing s h = rw h.packing refl

offset_rule_explicit : (s : Struct) (o : Option ℕ) → s.explicit ≡ true → position is_none (written s.offsets (length s.fields)) ≡ o
    → (if s.explicit then position is_none (written s.offsets (length s.fields)) else None) ≡ o
offset_rule_explicit s o e at = rw e at

broken_sequential : (s : Struct) → HasFields s → s.explicit ≡ false → broken s ≡ broken_where (nat_lt largest (struct_size s))
broken_sequential s h e =
    let at : (if s.explicit then position is_none (written s.offsets (length s.fields)) else None) ≡ None = rw e refl in
    let apart : overlap_of s ≡ None = rw e refl in
    last_rule _ _ _ _ _ (nat_lt largest (struct_size s)) h.nested (some_fields s h) (good_packing s h) at apart

broken_explicit : (s : Struct) → HasFields s → s.explicit ≡ true → position is_none (written s.offsets (length s.fields)) ≡ None
    → overlap_of s ≡ None → broken s ≡ broken_where (nat_lt largest (struct_size s))
broken_explicit s h e at apart =
    last_rule _ _ _ _ _ (nat_lt largest (struct_size s)) h.nested (some_fields s h) (good_packing s h) (offset_rule_explicit s None e at) apart

pub broken_offset : (s : Struct) (k : ℕ) → HasFields s → s.explicit ≡ true → position is_none (written s.offsets (length s.fields)) ≡ Some k → broken s ≡ Some k
broken_offset s k h e at =
    fourth_rule _ _ _ _ _ k h.nested (some_fields s h) (good_packing s h) (offset_rule_explicit s (Some k) e at)

pub broken_overlap : (s : Struct) (k : ℕ) → HasFields s → s.explicit ≡ true → position is_none (written s.offsets (length s.fields)) ≡ None
    → overlap_of s ≡ Some k → broken s ≡ Some k
broken_overlap s k h e at overlap =
    fifth_rule _ _ _ _ _ _ k h.nested (some_fields s h) (good_packing s h) (offset_rule_explicit s None e at) overlap

pub broken_nested : (s : Struct) (k : ℕ) → position (λ m. not m.stands) s.fields ≡ Some k → broken s ≡ Some k
broken_nested s k nested = rw nested refl

pub broken_empty : (s : Struct) → position (λ m. not m.stands) s.fields ≡ None → (length s.fields == 0) ≡ true → broken s ≡ Some 0
broken_empty s nested none = rw (nested, none) refl

pub broken_packing : (s : Struct) → position (λ m. not m.stands) s.fields ≡ None → is_packing s.pack ≡ false → broken s ≡ Some 0
broken_packing s nested packing = elim (decided (length s.fields == 0)) [
  | inl none ↦ broken_empty s nested none
  | inr some ↦ rw (nested, some, packing) refl
]

-- a test that finds a broken rule says so
pub refused_by : (s : Struct) (rule : Option ℕ) (bad : LayoutBad) → ((k : ℕ) → rule ≡ Some k → broken s ≡ Some k)
    → Passes {X = Unit {0}} rule (Err bad) → Answers {X = Layout} (Err bad) (laid s)
refused_by s rule Memory how says = tt
refused_by s None (Outside field) how says = absurd (cc)
refused_by s (Some k) (Outside field) how says =
    let is : broken s ≡ Some k = how k refl in
    let same : told k ≡ field = cc in
    rw is (ap Err same)

-- ---- the layout of fields that lie somewhere

laid_finished : (s : Struct) → broken s ≡ broken_where (nat_lt largest (struct_size s))
    → laid s ≡ finished (starts (ranges s)) (greatest_end 0 (ranges s)) (struct_align s) s.least
laid_finished s is = rw is refl

finished_same : (o p : List (Option ℕ)) (e f a b least : ℕ) → o ≡ p → e ≡ f → a ≡ b → finished o e a least ≡ finished p f b least
finished_same o p e f a b least x y z = rw (x, y, z) refl

-- a size that is too great has no layout
finished_large : (offsets : List (Option ℕ)) (end align least : ℕ) → IsTrue (is_align align) → largest < end → finished offsets end align least ≡ Err 0
finished_large offsets end align least is over =
    let above : end ≤ aligned end align = aligned_above end align is in
    let test : nat_lt largest (max least (aligned end align)) ≡ true = grind (arith, nat_tests) in
    rw test refl

ranges_sequential : (s : Struct) → s.explicit ≡ false → ranges s ≡ in_sequence s.pack 0 (extents s)
ranges_sequential s e = rw e refl

ranges_explicit : (s : Struct) → s.explicit ≡ true → ranges s ≡ at_offsets (written s.offsets (length s.fields)) (extents s)
ranges_explicit s e = rw e refl

-- ---- fields in sequence

pub sequential_laid : (s : Struct) (cs : List Extent) (p : Placed) (align : ℕ) → HasFields s → s.explicit ≡ false → cs ≡ map cap (extents s)
    → IsFilled (in_sequence s.pack 0 cs) p → align ≡ greatest 1 (map (field_align s.pack) cs) → laid s ≡ finished p.offsets p.end align s.least
sequential_laid s cs p align h e are filled align_is = elim (decided (has_large (extents s))) [
  | inl large ↦
      let too : has_large cs ≡ true = ap has_large are ∙ (capped_large (extents s) ∙ large) in
      absurd (omega (arith, large_in_sequence s.pack 0 0 cs too, filled.at.end, filled.within))
  | inr small ↦
      let same : cs ≡ extents s = are ∙ capped_small (extents s) small in
      let lie : in_sequence s.pack 0 cs ≡ ranges s = ap (in_sequence s.pack 0) same ∙ sym (ranges_sequential s e) in
      laid_finished s (broken_sequential s h e)
      ∙ finished_same _ _ _ _ _ _ s.least (sym (filled.at.offsets ∙ ap starts lie)) (sym (filled.at.end ∙ ap (greatest_end 0) lie))
      (sym (align_is ∙ ap (λ es. greatest 1 (map (field_align s.pack) es)) same))
]

pub sequential_refused : (s : Struct) (cs : List Extent) (bad : LayoutBad) → HasFields s → s.explicit ≡ false → cs ≡ map cap (extents s)
    → IsTrue (is_align (greatest 1 (map (field_align s.pack) cs))) → IsSequence s.pack cs (Err bad) → Answers {X = Layout} (Err bad) (laid s)
sequential_refused s cs Memory h e are align says = tt
sequential_refused s cs (Outside field) h e are align says =
    let over : largest < greatest_end 0 (in_sequence s.pack 0 (extents s)) =
    elim (decided (has_large (extents s))) [
      | inl large ↦ large_in_sequence s.pack 0 0 (extents s) large
      | inr small ↦
          let same : cs ≡ extents s = are ∙ capped_small (extents s) small in
          subst (λ (es : List Extent). largest < greatest_end 0 (in_sequence s.pack 0 es)) same says.beyond
    ] in
    let passes : largest < greatest_end 0 (ranges s) = subst (λ (rs : List Range). largest < greatest_end 0 rs) (sym (ranges_sequential s e)) over in
    let aligns : greatest 1 (map (field_align s.pack) cs) ≡ struct_align s =
    ap (λ ns. greatest 1 ns) (ap (map (field_align s.pack)) are ∙ aligns_capped s.pack (extents s)) in
    let at : IsTrue (is_align (struct_align s)) = subst (λ (n : ℕ). IsTrue (is_align n)) aligns align in
    laid_finished s (broken_sequential s h e) ∙ (finished_large _ _ _ s.least at passes ∙ ap Err (sym says.first))

-- ---- fields at their offsets

given : (o : Option ℕ) → is_none o ≡ false → Some (unwrap_or o 0) ≡ o
given None h = absurd (cc)
given (Some k) h = refl

starts_at : (f : ℕ → Option ℕ) (a n : ℕ) (es : List Extent) → n ≡ length es → ((j : ℕ) → a ≤ j → j < a + n → is_none (f j) ≡ false)
    → starts (at_offsets (map f (range_with_len a n)) es) ≡ map f (range_with_len a n)
starts_at f a zero es many each = refl
starts_at f a (suc n) [] many each = absurd (omega arith)
starts_at f a (suc n) (e ∷ es) many each =
    let rest = starts_at f (a + 1) n es (omega arith) (λ j from to. each j (omega arith) (omega arith)) in
    let here : Some (unwrap_or (f a) 0) ≡ f a = given (f a) (each a (omega arith) (omega arith)) in
    rw (here, rest) refl

-- the bytes of a field whose size is counted up to 2^32
cap_range : Range → Range
cap_range r = record { start = r.start; end = min r.end (r.start + 2 ^ 32) }

capped_ranges : (os : List (Option ℕ)) (es : List Extent) → at_offsets os (map cap es) ≡ map cap_range (at_offsets os es)
unfolding cap_range
capped_ranges [] es = refl
capped_ranges (o ∷ os) [] = refl
capped_ranges (o ∷ os) (e ∷ es) =
    let ends : unwrap_or o 0 + min e.size (2 ^ 32) ≡ min (unwrap_or o 0 + e.size) (unwrap_or o 0 + 2 ^ 32) = omega arith in
    rw (ends, capped_ranges os es) refl

-- fields begin below 2^32
abbrev AreLow : List Range → Type 0
AreLow [] = Unit {0}
AreLow (r ∷ rs) = (r.start < 2 ^ 32) × AreLow rs

low_at : (f : ℕ → Option ℕ) (a n : ℕ) (es : List Extent) → ((j : ℕ) → a ≤ j → j < a + n → unwrap_or (f j) 0 < 2 ^ 32)
    → AreLow (at_offsets (map f (range_with_len a n)) es)
low_at f a zero es small = tt
low_at f a (suc n) [] small = tt
low_at f a (suc n) (e ∷ es) small =
    (small a (omega arith) (omega arith), low_at f (a + 1) n es (λ j from to. small j (omega arith) (omega arith)))

same_test : (a b c d : ℕ) → (a < b → c < d) → (c < d → a < b) → nat_lt a b ≡ nat_lt c d
same_test a b c d to from = grind (arith, nat_tests)

share_capped : (a b : Range) → a.start < 2 ^ 32 → b.start < 2 ^ 32 → share_a_byte (cap_range a) (cap_range b) ≡ share_a_byte a b
unfolding cap_range
share_capped a b low_a low_b = same_test _ _ _ _ (λ h. omega arith) (λ h. omega arith)

count_capped : (a : Range) (rs : List Range) → a.start < 2 ^ 32 → AreLow rs → count_by (share_a_byte (cap_range a)) (map cap_range rs) ≡ count_by (share_a_byte a) rs
count_capped a [] low lows = refl
count_capped a (r ∷ rs) low lows =
    count_by-cons (share_a_byte (cap_range a)) (cap_range r) (map cap_range rs)
    ∙ (rw (share_capped a r low lows.0, count_capped a rs low lows.1) refl ∙ sym (count_by-cons (share_a_byte a) r rs))

prefix_capped : (all rs : List Range) → AreLow all → AreLow rs
    → prefix_len (λ r. not (overlaps_another (map cap_range all) r)) (map cap_range rs) ≡ prefix_len (λ r. not (overlaps_another all r)) rs
prefix_capped all [] lows low = refl
prefix_capped all (r ∷ rs) lows low =
    let here : overlaps_another (map cap_range all) (cap_range r) ≡ overlaps_another all r = ap (λ n. nat_lt 1 n) (count_capped r all low.0 lows) in
    let rest = prefix_capped all rs lows low.1 in
    rw (here, rest) refl

-- sizes that are counted up to 2^32 overlap where the sizes do
overlap_capped : (os : List (Option ℕ)) (es : List Extent) → AreLow (at_offsets os es) → first_overlap (at_offsets os (map cap es)) ≡ first_overlap (at_offsets os es)
overlap_capped os es low =
    let rs : List Range = at_offsets os es in
    let same : first_overlap (map cap_range rs) ≡ first_overlap rs =
    rw (prefix_capped rs rs low low, length-map rs cap_range) refl in
    ap first_overlap (capped_ranges os es) ∙ same

overlap_explicit : (s : Struct) → s.explicit ≡ true → overlap_of s ≡ (if is_integral s then None else first_overlap (ranges s))
overlap_explicit s e = rw e (elim (is_integral s) as (λ b. (if true && not b then first_overlap (at_offsets (written s.offsets (length s.fields)) (extents s)) else None) ≡ (if b then None else first_overlap (at_offsets (written s.offsets (length s.fields)) (extents s)))) [ true ↦ refl | false ↦ refl ])

-- the ranges that the code finds
pub record AreRanges (s : Struct) (cs : List Extent) (os : List (Option ℕ)) (rs : List Range) : Type 0 where
  pub fields : HasFields s
  pub explicit : s.explicit ≡ true
  pub extents : cs ≡ map cap (extents s)
  pub written : AreWritten s.offsets (length s.fields) os
  pub ranges : rs ≡ at_offsets os cs

same_overlap : (s : Struct) (cs : List Extent) (os : List (Option ℕ)) (rs : List Range) → AreRanges s cs os rs
    → overlap_of s ≡ (if is_integral s then None else first_overlap rs)
same_overlap s cs os rs are =
    let n : ℕ = length s.fields in
    let low = low_at (offset_at s.offsets) 0 n (extents s) (λ j from to. are.written.small j (omega arith)) in
    let lie : first_overlap rs ≡ first_overlap (ranges s) =
    ap first_overlap (are.ranges ∙ (ap (λ o. at_offsets o cs) are.written.value ∙ ap (at_offsets (written s.offsets n)) are.extents))
    ∙ (overlap_capped (written s.offsets n) (extents s) low ∙ ap first_overlap (sym (ranges_explicit s are.explicit))) in
    overlap_explicit s are.explicit ∙ ap (λ o. if is_integral s then None else o) (sym lie)

pub explicit_refused : (s : Struct) (cs : List Extent) (os : List (Option ℕ)) (rs : List Range) (bad : LayoutBad) → AreRanges s cs os rs
    → Passes {X = Unit {0}} (if is_integral s then None else first_overlap rs) (Err bad) → Answers {X = Layout} (Err bad) (laid s)
explicit_refused s cs os rs bad are says =
    refused_by s (if is_integral s then None else first_overlap rs) bad
    (λ k is. broken_overlap s k are.fields are.explicit (missing_none s.offsets (length s.fields) are.written.each) (same_overlap s cs os rs are ∙ is)) says

pub explicit_laid : (s : Struct) (cs : List Extent) (os : List (Option ℕ)) (rs : List Range) (align : ℕ) → AreRanges s cs os rs
    → (if is_integral s then None else first_overlap rs) ≡ None
    → align ≡ greatest 1 (map (field_align s.pack) cs) → IsTrue (is_align align) → laid s ≡ finished os (greatest_end 0 rs) align s.least
explicit_laid s cs os rs align are apart align_is good =
    let n : ℕ = length s.fields in
    let w : List (Option ℕ) = written s.offsets n in
    let none = missing_none s.offsets n are.written.each in
    let begin = laid_finished s (broken_explicit s are.fields are.explicit none (same_overlap s cs os rs are ∙ apart)) in
    let lie : rs ≡ at_offsets w cs = are.ranges ∙ ap (λ o. at_offsets o cs) are.written.value in
    let many : length w ≡ length (extents s) = omega (arith, length-map-range_with_len (offset_at s.offsets) 0 n, length-map s.fields (λ (m : Measure). m.extent)) in
    elim (decided (has_large (extents s))) [
      | inl large ↦
          let too : has_large cs ≡ true = ap has_large are.extents ∙ (capped_large (extents s) ∙ large) in
          let many' : length w ≡ length cs = many ∙ sym (ap length are.extents ∙ length-map (extents s) cap) in
          let over : largest < greatest_end 0 rs = subst (λ (ls : List Range). largest < greatest_end 0 ls) (sym lie) (large_at_offsets w 0 cs many' too) in
          let passes : largest < greatest_end 0 (ranges s) = subst (λ (ls : List Range). largest < greatest_end 0 ls) (sym (ranges_explicit s are.explicit)) (large_at_offsets w 0 (extents s) many large) in
          let aligns : align ≡ struct_align s =
          align_is ∙ ap (λ ns. greatest 1 ns) (ap (map (field_align s.pack)) are.extents ∙ aligns_capped s.pack (extents s)) in
          let at : IsTrue (is_align (struct_align s)) = subst (λ (n : ℕ). IsTrue (is_align n)) aligns good in
          begin ∙ (finished_large _ _ _ s.least at passes ∙ sym (finished_large os _ _ s.least good over))
      | inr small ↦
          let same : cs ≡ extents s = are.extents ∙ capped_small (extents s) small in
          let lie' : rs ≡ ranges s = lie ∙ (ap (at_offsets w) same ∙ sym (ranges_explicit s are.explicit)) in
          let begun : starts (ranges s) ≡ os =
          ap starts (ranges_explicit s are.explicit)
          ∙ (starts_at (offset_at s.offsets) 0 n (extents s) (omega (arith, length-map s.fields (λ (m : Measure). m.extent))) (λ j from to. are.written.each j (omega arith)) ∙ sym are.written.value) in
          begin ∙ finished_same _ _ _ _ _ _ s.least begun (ap (greatest_end 0) (sym lie')) (sym (align_is ∙ ap (λ es. greatest 1 (map (field_align s.pack) es)) same))
    ]

pub offsets_refused : (s : Struct) (bad : LayoutBad) → HasFields s → s.explicit ≡ true → IsWritten s.offsets (length s.fields) (Err bad)
    → Answers {X = Layout} (Err bad) (laid s)
offsets_refused s Memory h e says = tt
offsets_refused s (Outside field) h e says =
    refused_by s (position is_none (written s.offsets (length s.fields))) (Outside field) (λ k is. broken_offset s k h e is) says

ends_within : (os : List (Option ℕ)) (reach : ℕ) (es : List Extent) → AreLow (at_offsets os es) → reach ≤ 2 ^ 34 → greatest_end reach (at_offsets os (map cap es)) ≤ 2 ^ 34
ends_within [] reach es low h = h
ends_within (o ∷ os) reach [] low h = h
ends_within (o ∷ os) reach (e ∷ es) low h =
    let here : unwrap_or o 0 < 2 ^ 32 = low.0 in
    ends_within os (max reach (unwrap_or o 0 + min e.size (2 ^ 32))) es low.1 (omega arith)

capped_all : (es : List Extent) → All (λ e. e.size ≤ 2 ^ 32) es → map cap es ≡ es
capped_all [] small = refl
capped_all (e ∷ es) small =
    let size : e.size ≤ 2 ^ 32 = All-head (λ (x : Extent). x.size ≤ 2 ^ 32) e es small in
    let here : min e.size (2 ^ 32) ≡ e.size = omega arith in
    rw (here, capped_all es (All-tail (λ (x : Extent). x.size ≤ 2 ^ 32) e es small)) refl

-- ends of fields at offsets of 32 bits
pub low_ends : (offsets : List (Option ℕ)) (es : List Extent) (os : List (Option ℕ)) (rs : List Range) → AreWritten offsets (length es) os
    → All (λ e. e.size ≤ 2 ^ 32) es → rs ≡ at_offsets os es → greatest_end 0 rs ≤ 2 ^ 34
low_ends offsets es os rs at small lie =
    let w : List (Option ℕ) = written offsets (length es) in
    let low = low_at (offset_at offsets) 0 (length es) es (λ j from to. at.small j (omega arith)) in
    let same : rs ≡ at_offsets w (map cap es) = lie ∙ (ap (λ o. at_offsets o es) at.value ∙ ap (at_offsets w) (sym (capped_all es small))) in
    subst (λ (ls : List Range). greatest_end 0 ls ≤ 2 ^ 34) (sym same) (ends_within w 0 es low (omega arith))

-- ---- what a layout says of the struct as a part

refused_is : (o : Option ℕ) (l : Layout) (field : ℕ) → laid_unless o l ≡ Err field → is_none o ≡ false
refused_is None l field h = absurd (cc)
refused_is (Some k) l field h = refl

laid_is : (o : Option ℕ) (l l' : Layout) → laid_unless o l ≡ Ok l' → (o ≡ None) × (l ≡ l')
laid_is None l l' h = (refl, cc)
laid_is (Some k) l l' h = absurd (cc)

all_none : (a b c d e : Option ℕ) (test : Bool) → first_some (a ∷ b ∷ c ∷ d ∷ e ∷ broken_where test ∷ []) ≡ None → test ≡ false
all_none (Some k) b c d e test h = absurd (cc)
all_none None (Some k) c d e test h = absurd (cc)
all_none None None (Some k) d e test h = absurd (cc)
all_none None None None (Some k) e test h = absurd (cc)
all_none None None None None (Some k) test h = absurd (cc)
all_none None None None None None true h = absurd (cc)
all_none None None None None None false h = refl

size_within : (n : ℕ) → nat_lt largest n ≡ false → n ≤ largest
size_within n h = grind (arith, nat_tests)

standing_within : (s : Struct) → broken s ≡ None → struct_size s ≤ largest
standing_within s none =
    let test : nat_lt largest (struct_size s) ≡ false = all_none (position (λ m. not m.stands) s.fields) (broken_where (length s.fields == 0)) (broken_where (not (is_packing s.pack)))
    (if s.explicit then position is_none (written s.offsets (length s.fields)) else None) (overlap_of s) (nat_lt largest (struct_size s)) none in
    size_within (struct_size s) test

pub standing_struct : (m : Measure) (s : Struct) (l : Layout) → m ≡ struct_measure s → Answers (Ok l) (laid s) → IsTrue (is_align l.align)
    → IsExtent m (record { size = l.size; align = l.align })
standing_struct m s l is says align =
    let parts = laid_is (broken s) _ l says in
    let within : struct_size s ≤ largest = standing_within s parts.0 in
    let size : l.size ≡ min (struct_size s) (2 ^ 32) = sym (ap (λ (x : Layout). x.size) parts.1) ∙ omega arith in
    let aligns : l.align ≡ struct_align s = sym (ap (λ (x : Layout). x.align) parts.1) in
    record {
      stands = ap (λ (x : Measure). x.stands) is ∙ ap is_none parts.0;
      extent = rw (size, aligns) (ap (λ (x : Measure). cap x.extent) (sym is));
      align = align;
    }

pub outside_struct : (m : Measure) (s : Struct) (bad : LayoutBad) → m ≡ struct_measure s → Answers {X = Layout} (Err bad) (laid s) → IsMeasured m (Err bad)
outside_struct m s Memory is says = tt
outside_struct m s (Outside field) is says = ap (λ (x : Measure). x.stands) is ∙ refused_is (broken s) _ field says

below_of : (a b : ℕ) → nat_lt a b ≡ true → a < b
below_of a b h = grind (arith, nat_tests)

within_of : (a b : ℕ) → nat_lt a b ≡ false → b ≤ a
within_of a b h = grind (arith, nat_tests)

pub min_times : (n size most : ℕ) → min (n * min size most) most ≡ min (n * size) most
min_times zero size most = omega arith
min_times (suc n) size most = elim (decided (nat_lt most size)) [
  | inl over ↦
      let above : most < size = below_of most size over in
      let is : min size most ≡ most = omega arith in
      rw is (omega (arith, above))
  | inr within ↦
      let below : size ≤ most = within_of most size within in
      let is : min size most ≡ size = omega arith in
      rw is refl
]

pub repeated_extent : (m element : Measure) (n size : ℕ) (e : Extent) → m ≡ repeated n element → IsExtent element e → size ≡ min (n * e.size) (2 ^ 32)
    → IsExtent m (record { size = size; align = e.align })
repeated_extent m element n size e is has size_is =
    let sizes : size ≡ min (n * element.extent.size) (2 ^ 32) =
    size_is ∙ (ap (λ (x : Extent). min (n * x.size) (2 ^ 32)) has.extent ∙ min_times n element.extent.size (2 ^ 32)) in
    let aligns : e.align ≡ element.extent.align = ap (λ (x : Extent). x.align) has.extent in
    record {
      stands = ap (λ (x : Measure). x.stands) is ∙ has.stands;
      extent = rw (sizes, aligns) (ap (λ (x : Measure). cap x.extent) (sym is));
      align = has.align;
    }

-- ---- what the code's steps give

pub same_err : {X : Type 0} (r : Result X LayoutBad) (bad : LayoutBad) → IsErrAnd r (λ e. e ≡ bad) → r ≡ Err bad
same_err (Ok x) bad h = absurd h
same_err (Err e) bad h = ap Err h

pub all_capped : (es : List Extent) → All (λ e. e.size ≤ 2 ^ 32) (map cap es)
all_capped es = All-map (λ (e : Extent). e.size ≤ 2 ^ 32) cap es (λ k d h. omega arith)

many_capped : (s : Struct) → length (map cap (extents s)) ≡ length s.fields
many_capped s = length-map (extents s) cap ∙ length-map s.fields (λ (m : Measure). m.extent)

pub explicit_ranges : (s : Struct) (cs : List Extent) (os : List (Option ℕ)) (rs : List Range) → HasFields s → s.explicit ≡ true → cs ≡ map cap (extents s)
    → AreWritten s.offsets (length cs) os → rs ≡ at_offsets os cs → AreRanges s cs os rs
explicit_ranges s cs os rs h e are at lie = record {
  fields = h;
  explicit = e;
  extents = are;
  written = subst (λ (n : ℕ). AreWritten s.offsets n os) (ap length are ∙ many_capped s) at;
  ranges = lie;
}

pub explicit_unwritten : (s : Struct) (cs : List Extent) (bad : LayoutBad) → HasFields s → s.explicit ≡ true → cs ≡ map cap (extents s)
    → IsWritten s.offsets (length cs) (Err bad) → Answers {X = Layout} (Err bad) (laid s)
explicit_unwritten s cs bad h e are says =
    offsets_refused s bad h e (subst (λ (n : ℕ). IsWritten s.offsets n (Err bad)) (ap length are ∙ many_capped s) says)

abbrev pub counted : List Shape → List Extent
counted shapes = map cap (map (λ m. m.extent) (map measure shapes))

pub extents_step : (whole items more : List Extent) (k : ℕ) (shapes : List Shape) (item : Shape) (e : Extent) → k < length shapes → item ≡ get_or shapes k item
    → e ≡ cap (measure item).extent → more ≡ items ++ (e ∷ []) → whole ≡ items ++ counted (drop k shapes) → whole ≡ more ++ counted (drop (k + 1) shapes)
extents_step whole items more k shapes item e lt is e_is more_is all =
    let split : drop k shapes ≡ get_or shapes k item ∷ drop (suc k) shapes = drop-cons shapes k item lt in
    let one : k + 1 ≡ suc k = omega arith in
    let next : drop (k + 1) shapes ≡ drop (suc k) shapes = ap (λ n. drop n shapes) one in
    let here : counted (drop k shapes) ≡ e ∷ counted (drop (k + 1) shapes) =
    ap counted split ∙ (ap (λ x. cap (measure x).extent ∷ counted (drop (suc k) shapes)) (sym is) ∙ (ap (λ x. x ∷ counted (drop (suc k) shapes)) (sym e_is) ∙ ap (λ xs. e ∷ counted xs) (sym next))) in
    all ∙ (ap (λ xs. items ++ xs) here ∙ (sym (append_assoc items (e ∷ []) (counted (drop (k + 1) shapes))) ∙ ap (λ xs. xs ++ counted (drop (k + 1) shapes)) (sym more_is)))

pub extents_whole : (whole items : List Extent) (k : ℕ) (shapes : List Shape) → length shapes ≤ k → whole ≡ items ++ counted (drop k shapes) → items ≡ whole
extents_whole whole items k shapes past all =
    let none : drop k shapes ≡ [] = drop_all k shapes past in
    sym (all ∙ (ap (λ xs. items ++ counted xs) none ∙ append-nil items))

-- the measure of the shape at a place
pub measure_at : (shapes : List Shape) (k : ℕ) (item : Shape) → k < length shapes → item ≡ get_or shapes k item
    → get_or (map measure shapes) k (scalar 1 true) ≡ measure item
measure_at shapes k item lt is = get_or-map measure shapes k item (scalar 1 true) lt ∙ ap measure (sym is)

-- ---- sizes of structs that stand

pub is_none_is : (o : Option ℕ) → IsTrue (is_none o) → o ≡ None
is_none_is None h = refl
is_none_is (Some k) h = absurd (cc)

third_none : (a b c : Option ℕ) (rest : List (Option ℕ)) → first_some (a ∷ b ∷ c ∷ rest) ≡ None → c ≡ None
third_none (Some k) b c rest h = absurd (cc)
third_none None (Some k) c rest h = absurd (cc)
third_none None None (Some k) rest h = absurd (cc)
third_none None None None rest h = refl

first_none : (a : Option ℕ) (rest : List (Option ℕ)) → first_some (a ∷ rest) ≡ None → a ≡ None
first_none (Some k) rest h = absurd (cc)
first_none None rest h = refl

packing_is : (b : Bool) → broken_where (not b) ≡ None → IsTrue b
packing_is true h = refl
packing_is false h = absurd (cc)

pub standing_packing : (s : Struct) → broken s ≡ None → IsTrue (is_packing s.pack)
standing_packing s none =
    packing_is (is_packing s.pack) (third_none (position (λ m. not m.stands) s.fields) (broken_where (length s.fields == 0)) (broken_where (not (is_packing s.pack)))
    ((if s.explicit then position is_none (written s.offsets (length s.fields)) else None) ∷ overlap_of s ∷ broken_where (nat_lt largest (struct_size s)) ∷ []) none)

not_false : (b : Bool) → not b ≡ false → b ≡ true
not_false true h = refl
not_false false h = absurd (cc)

is_below : (a b : ℕ) → a < b → nat_lt a b ≡ true
is_below a b h = grind (arith, nat_tests)

pub stand_each : (ms : List Measure) → position (λ m. not m.stands) ms ≡ None → (k : ℕ) (d : Measure) → k < length ms → (get_or ms k d).stands ≡ true
stand_each ms none k d lt = elim (decided (nat_lt k (position_or_len (λ m. not m.stands) ms))) [
  | inl before ↦
      not_false _ (fails_before_first (λ m. not m.stands) ms k d (below_of k _ before))
  | inr after ↦
      let reached : position_or_len (λ m. not m.stands) ms ≤ k = within_of k _ after in
      let found : nat_lt (position_or_len (λ m. not m.stands) ms) (length ms) ≡ true = is_below _ _ (omega arith) in
      let some : position (λ m. not m.stands) ms ≡ Some (position_or_len (λ m. not m.stands) ms) = rw found refl in
      absurd (cc)
]

pub all_stand : (shapes : List Shape) → ((k : ℕ) → k < length shapes → (get_or (map measure shapes) k (scalar 1 true)).stands ≡ true) → list_all stands shapes ≡ true
all_stand [] each = refl
all_stand (x ∷ xs) each =
    let here : stands x ≡ true = each 0 (omega arith) in
    let rest : list_all stands xs ≡ true = all_stand xs (λ k h. each (suc k) (omega arith)) in
    rw (here, rest) refl

pub standing_fields : (s : StructShape) → broken (measured s) ≡ None → IsTrue (list_all stands s.fields)
standing_fields s none =
    let nested = first_none (position (λ m. not m.stands) (map measure s.fields)) _ none in
    let all : list_all stands s.fields ≡ true = all_stand s.fields (λ k h. stand_each (map measure s.fields) nested k (scalar 1 true) (omega (arith, length-map s.fields measure))) in
    all

rounded_above : (n align : ℕ) → 1 ≤ align → n ≤ aligned n align
rounded_above n align some = omega arith

pub ends_below : (s : Struct) → broken s ≡ None → greatest_end 0 (ranges s) ≤ largest
ends_below s none =
    let size : struct_size s ≤ largest = standing_within s none in
    let some : 1 ≤ struct_align s = greatest-least 1 (map (field_align s.pack) (extents s)) in
    let above : greatest_end 0 (ranges s) ≤ aligned (greatest_end 0 (ranges s)) (struct_align s) = rounded_above _ _ some in
    omega arith

pub struct_has_size : (s : Struct) (f : Extent) (size : ℕ) → broken s ≡ None → FieldsTake s f → size ≡ max s.least (aligned f.size f.align)
    → HasSize (struct_measure s) (record { size = size; align = f.align })
struct_has_size s f size none take is =
    let same : size ≡ struct_size s = is ∙ (ap (λ n. max s.least (aligned n f.align)) take.size ∙ ap (λ a. max s.least (aligned (greatest_end 0 (ranges s)) a)) take.align) in
    let within : struct_size s ≤ largest = standing_within s none in
    record {
      size = same ∙ omega arith;
      align = take.align;
      good = take.good;
    }

pub repeated_has_size : (m element : Measure) (n size : ℕ) (e : Extent) → m ≡ repeated n element → HasSize element e → size ≡ min (n * e.size) (2 ^ 64 - 1)
    → HasSize m (record { size = size; align = e.align })
repeated_has_size m element n size e is has size_is = record {
  size = size_is ∙ (ap (λ x. min (n * x) (2 ^ 64 - 1)) has.size ∙ (min_times n element.extent.size (2 ^ 64 - 1) ∙ ap (λ (x : Measure). min x.extent.size (2 ^ 64 - 1)) (sym is)));
  align = has.align ∙ ap (λ (x : Measure). x.extent.align) (sym is);
  good = has.good;
}

-- ---- the steps of a walk over fields

split_extents : (k : ℕ) (shapes : List Shape) (item : Shape) → k < length shapes → item ≡ get_or shapes k item
    → extents_of (drop k shapes) ≡ (measure item).extent ∷ extents_of (drop (k + 1) shapes)
split_extents k shapes item lt is =
    let split : drop k shapes ≡ get_or shapes k item ∷ drop (suc k) shapes = drop-cons shapes k item lt in
    let one : suc k ≡ k + 1 = omega arith in
    ap extents_of split ∙ (ap (λ x. (measure x).extent ∷ extents_of (drop (suc k) shapes)) (sym is) ∙ ap (λ n. (measure item).extent ∷ extents_of (drop n shapes)) one)

-- a size that 64 bits tell whole
told_whole : (told size : ℕ) → told ≡ min size (2 ^ 64 - 1) → size ≤ largest → told ≡ size
told_whole told size is small = omega arith

pub record SequenceStep (whole pack start : ℕ) (e : Extent) (rest : List Extent) : Type 0 where
  pub sum : start + e.size ≤ largest
  pub step : whole ≡ greatest_end (start + e.size) (in_sequence pack (start + e.size) rest)

above_start : (end start align : ℕ) → IsTrue (is_align align) → start ≡ aligned end align → end ≤ start
above_start end start align good is = let h : end ≤ aligned end align = aligned_above end align good in rw is h

below_whole : (least whole : ℕ) (ns : List ℕ) → whole ≡ greatest least ns → least ≤ whole
below_whole least whole ns is = rw is (greatest-least least ns)

add_both : (a b c d : ℕ) → a ≡ b → c ≡ d → a + c ≡ b + d
add_both a b c d p q = omega arith

pub sequence_step : (whole pack end k start align : ℕ) (shapes : List Shape) (item : Shape) (e : Extent) → k < length shapes → item ≡ get_or shapes k item
    → whole ≡ greatest_end end (in_sequence pack end (extents_of (drop k shapes))) → whole ≤ largest → HasSize (measure item) e
    → align ≡ field_align pack e → IsTrue (is_align align) → start ≡ aligned end align
    → SequenceStep whole pack start e (extents_of (drop (k + 1) shapes))
sequence_step whole pack end k start align shapes item e lt is all small has align_is good start_is =
    let m : Extent = (measure item).extent in
    let rest : List Extent = extents_of (drop (k + 1) shapes) in
    let next : ℕ = aligned end (field_align pack m) + m.size in
    let whole' : whole ≡ greatest_end (max end next) (in_sequence pack next rest) =
    all ∙ ap (λ es. greatest_end end (in_sequence pack end es)) (split_extents k shapes item lt is) in
    let place : start ≡ aligned end (field_align pack m) = start_is ∙ ap (λ a. aligned end a) (align_is ∙ ap (λ a. min (packing pack) a) has.align) in
    let above : end ≤ start = above_start end start align good start_is in
    let low : max end next ≤ whole = below_whole (max end next) whole (map (λ r. r.end) (in_sequence pack next rest)) whole' in
    let exact : e.size ≡ m.size = told_whole e.size m.size has.size (omega (arith, low, small)) in
    let sum : start + e.size ≡ next = add_both start (aligned end (field_align pack m)) e.size m.size place exact in
    let top : max end next ≡ next = omega (arith, above, sum) in
    record {
      sum = omega (arith, sum, low, small);
      step = rw sum (whole' ∙ ap (λ n. greatest_end n (in_sequence pack next rest)) top);
    }

pub align_step : (whole acc pack k at : ℕ) (shapes : List Shape) (item : Shape) (e : Extent) → k < length shapes → item ≡ get_or shapes k item
    → whole ≡ greatest acc (map (field_align pack) (extents_of (drop k shapes))) → at ≡ field_align pack e → HasSize (measure item) e
    → whole ≡ greatest (max acc at) (map (field_align pack) (extents_of (drop (k + 1) shapes)))
align_step whole acc pack k at shapes item e lt is all at_is has =
    all ∙ (ap (λ es. greatest acc (map (field_align pack) es)) (split_extents k shapes item lt is)
    ∙ ap (λ a. greatest (max acc a) (map (field_align pack) (extents_of (drop (k + 1) shapes)))) (sym (at_is ∙ ap (λ a. min (packing pack) a) has.align)))

pub record ExplicitStep (whole end start k : ℕ) (e : Extent) (offsets : List (Option ℕ)) (shapes : List Shape) : Type 0 where
  pub sum : start + e.size ≤ largest
  pub step : whole ≡ greatest_end (max end (start + e.size)) (at_offsets (map (offset_at offsets) (range_with_len (k + 1) (length shapes - (k + 1)))) (extents_of (drop (k + 1) shapes)))

pub explicit_step : (whole end k start : ℕ) (offsets : List (Option ℕ)) (shapes : List Shape) (item : Shape) (e : Extent) → k < length shapes → item ≡ get_or shapes k item
    → whole ≡ greatest_end end (at_offsets (map (offset_at offsets) (range_with_len k (length shapes - k))) (extents_of (drop k shapes))) → whole ≤ largest
    → HasSize (measure item) e → start ≡ unwrap_or (offset_at offsets k) 0 → ExplicitStep whole end start k e offsets shapes
explicit_step whole end k start offsets shapes item e lt is all small has start_is =
    let m : Extent = (measure item).extent in
    let left : ℕ = length shapes - (k + 1) in
    let rest : List Range = at_offsets (map (offset_at offsets) (range_with_len (k + 1) left)) (extents_of (drop (k + 1) shapes)) in
    let next : ℕ = unwrap_or (offset_at offsets k) 0 + m.size in
    let fewer : length shapes - k ≡ suc left = omega arith in
    let whole' : whole ≡ greatest_end (max end next) rest =
    all ∙ (ap (λ n. greatest_end end (at_offsets (map (offset_at offsets) (range_with_len k n)) (extents_of (drop k shapes)))) fewer
    ∙ ap (λ es. greatest_end end (at_offsets (map (offset_at offsets) (range_with_len k (suc left))) es)) (split_extents k shapes item lt is)) in
    let low : max end next ≤ whole = below_whole (max end next) whole (map (λ r. r.end) rest) whole' in
    let exact : e.size ≡ m.size = told_whole e.size m.size has.size (omega (arith, low, small)) in
    let sum : start + e.size ≡ next = add_both start (unwrap_or (offset_at offsets k) 0) e.size m.size start_is exact in
    record {
      sum = omega (arith, sum, low, small);
      step = rw sum whole';
    }

pub max_align : (a b : ℕ) → IsTrue (is_align a) → IsTrue (is_align b) → IsTrue (is_align (max a b))
max_align a b x y = elim (decided (nat_lt a b)) [
  | inl less ↦ let h : a < b = below_of a b less in let is : max a b ≡ b = omega arith in rw is y
  | inr more ↦ let h : b ≤ a = within_of a b more in let is : max a b ≡ a = omega arith in rw is x
]

-- where fields lie, by the struct's own fields
pub sequential_below : (s : StructShape) → broken (measured s) ≡ None → s.explicit ≡ false → greatest_end 0 (in_sequence s.pack 0 (extents_of s.fields)) ≤ largest
sequential_below s none e =
    subst (λ (rs : List Range). greatest_end 0 rs ≤ largest) (ranges_sequential (measured s) e) (ends_below (measured s) none)

pub explicit_below : (s : StructShape) → broken (measured s) ≡ None → s.explicit ≡ true
    → greatest_end 0 (at_offsets (written s.offsets (length s.fields)) (extents_of s.fields)) ≤ largest
explicit_below s none e =
    subst (λ (n : ℕ). greatest_end 0 (at_offsets (written s.offsets n) (extents_of s.fields)) ≤ largest) (length-map s.fields measure)
    (subst (λ (rs : List Range). greatest_end 0 rs ≤ largest) (ranges_explicit (measured s) e) (ends_below (measured s) none))
