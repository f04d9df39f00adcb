-- What was found of a struct by what was found of its fields.
use Rattle.std.proofs.Common.{◌≡◌, ◌≤◌, ◌<◌, ℕ, zero, suc, ◌+◌, ◌^◌, min, max, Bool, true, false, ◌&&◌, cond, List, [], ◌∷◌, map, All, Option, Some, None, refl, sym, ap, ◌∙◌, arith}
use Rattle.std.specs.Prelude.{nat_le}
use Rattle.std.specs.Option.{option_and_then}
use Rattle.std.proofs.lemmas.Bool.Decides.{nat_tests}
use Rattle.std.proofs.lemmas.List.Elements.{All-cons, All-head, All-tail, All-weaker}
use Rattle.native_layout.specs.declared.shapes.Shape as shape
use Rattle.native_layout.specs.declared.shapes.Shape.{Shape}
use Rattle.native_layout.specs.declared.shapes.StructShape.{StructShape}
use Rattle.native_layout.specs.declared.outlines.Outline.{Outline}
use Rattle.native_layout.specs.Outlines.{outline, IsSound, OutlinesStruct}
use Rattle.native_layout.specs.Shapes.{stands, parts_of}
use Rattle.type_model.specs.Module.{Module}
use Rattle.flat_types.specs.declared.flat.Flat.{Flat}
use Rattle.flat_types.specs.declared.structs.Facts.{Facts}
use Rattle.flat_types.specs.Flat.{all_some, facts_of, flat_by, flat_field, flat_within, keep, struct_by}
use Rattle.flat_types.specs.Answers.{AreFlat, IsFlat, TypeAnswers, deepest}
use Rattle.flat_types.proofs.FieldsFound.{Shaped, shaped, too_few}

pub within_deepest : (fs : List Flat) → All (λ (f : Flat). f.levels ≤ deepest fs) fs
within_deepest [] = λ k d within. absurd (omega arith)
within_deepest (f ∷ fs) =
    All-cons (λ (g : Flat). g.levels ≤ max f.levels (deepest fs)) f fs (omega arith)
    (All-weaker (λ (g : Flat). g.levels ≤ deepest fs) (λ (g : Flat). g.levels ≤ max f.levels (deepest fs)) (λ g few. omega (arith, few)) fs (within_deepest fs))

pub deepest_within : (n : ℕ) (fs : List Flat) → All (λ (f : Flat). f.levels ≤ n) fs → deepest fs ≤ n
deepest_within n [] few = omega arith
deepest_within n (f ∷ fs) few =
    let first : f.levels ≤ n = All-head (λ (g : Flat). g.levels ≤ n) f fs few in
    let rest : deepest fs ≤ n = deepest_within n fs (All-tail (λ (g : Flat). g.levels ≤ n) f fs few) in
    omega (arith, first, rest)

-- what a struct's outline tells of whether it is kept
told : (s : StructShape) (b : Bool) → ((outline (shape.Struct s)).stands && nat_le (outline (shape.Struct s)).parts (2 ^ 20)) ≡ b
    → (stands (shape.Struct s) && nat_le (parts_of (shape.Struct s)) (2 ^ 20)) ≡ b
told s b is =
    let same : nat_le (min (parts_of (shape.Struct s)) (2 ^ 20 + 1)) (2 ^ 20) ≡ nat_le (parts_of (shape.Struct s)) (2 ^ 20) = capped (parts_of (shape.Struct s)) in
    ap (λ (few : Bool). stands (shape.Struct s) && few) (sym same) ∙ is
  where
    capped : (n : ℕ) → nat_le (min n (2 ^ 20 + 1)) (2 ^ 20) ≡ nat_le n (2 ^ 20)
    capped n = grind (arith, nat_tests)

module _ (m : Module) (t : ℕ) (facts : Facts) (fs : List Flat) (o : Outline) (is : facts_of m t ≡ Some facts) (are : AreFlat m facts.fields fs)
    (told_by : OutlinesStruct facts.pack facts.least facts.explicit (map (λ (f : Flat). f.outline) fs) facts.offsets o) where
  -- one level above its fields
  above : (n : ℕ) (shapes : Option (List Shape)) → all_some (map (flat_field (flat_within n m) m) facts.fields) ≡ shapes
      → flat_within (n + 1) m t ≡ option_and_then (λ (found : List Shape). keep (struct_by t facts found)) shapes
  unfolding flat_within
  above n shapes found =
      let next : n + 1 ≡ suc n = omega arith in
      ap (λ (k : ℕ). flat_within k m t) next
      ∙ ap (option_and_then (flat_by (flat_within n m) m t)) is
      ∙ ap (option_and_then (λ (found : List Shape). keep (struct_by t facts found))) found

  kept_if : (b : Bool) → (o.stands && nat_le o.parts (2 ^ 20)) ≡ b → (n : ℕ) (s : Shaped m n facts.fields fs)
      → flat_within (n + 1) m t ≡ cond b (Some (struct_by t facts s.shapes)) None
  kept_if b test n s =
      let same : o ≡ outline (shape.Struct (struct_by t facts s.shapes)) = told_by t s.shapes s.outlines in
      let kept : (stands (shape.Struct (struct_by t facts s.shapes)) && nat_le (parts_of (shape.Struct (struct_by t facts s.shapes))) (2 ^ 20)) ≡ b =
      told (struct_by t facts s.shapes) b (ap (λ (p : Outline). p.stands && nat_le p.parts (2 ^ 20)) (sym same) ∙ test) in
      above n (Some s.shapes) s.found
      ∙ ap (λ (c : Bool). cond c (Some (struct_by t facts s.shapes)) None) kept

  none_below : (n : ℕ) → n < deepest fs + 1 → flat_within n m t ≡ None
  unfolding flat_within
  none_below zero few = refl
  none_below (suc n) few =
      let next : suc n ≡ n + 1 = omega arith in
      ap (λ (k : ℕ). flat_within k m t) next
      ∙ above n None (too_few m n facts.fields fs are (omega (arith, few)))

  pub struct_found : (left : ℕ) → All (λ (f : Flat). f.levels ≤ left) fs → IsSound o → (o.stands && nat_le o.parts (2 ^ 20)) ≡ true
      → TypeAnswers m (left + 1) t (Some (record { outline = o; levels = deepest fs + 1 }))
  struct_found left few sound test =
      let s : Shaped m (deepest fs) facts.fields fs = shaped m (deepest fs) facts.fields fs are (within_deepest fs) in
      let found : IsFlat m t (record { outline = o; levels = deepest fs + 1 }) = record {
        kept = struct_by t facts s.shapes;
        within = kept_if true test (deepest fs) s;
        outline_is = told_by t s.shapes s.outlines;
        least = none_below;
        sound = sound;
      } in
      let reach : deepest fs ≤ left = deepest_within left fs few in
      (found, omega (arith, reach))

  pub struct_missed : (left : ℕ) → All (λ (f : Flat). f.levels ≤ left) fs → (o.stands && nat_le o.parts (2 ^ 20)) ≡ false
      → flat_within (left + 1) m t ≡ None
  struct_missed left few test = kept_if false test left (shaped m left facts.fields fs are few)
