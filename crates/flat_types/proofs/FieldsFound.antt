-- What was found of fields is what their struct has.
use Rattle.std.proofs.Common.{◌≡◌, ◌≤◌, ◌<◌, ℕ, zero, suc, Bool, true, false, List, [], ◌∷◌, ◌++◌, length, get_or, map, All, Option, Some, None, refl, ap, ◌∙◌, arith}
use Rattle.std.specs.Prelude.{nat_lt}
use Rattle.std.proofs.lemmas.Bool.Decides.{nat_tests}
use Rattle.std.specs.Option.{option_map}
use Rattle.std.proofs.lemmas.List.Elements.{All-cons, All-head, All-tail}
use Rattle.native_layout.specs.declared.shapes.Shape.{Shape}
use Rattle.native_layout.specs.declared.outlines.Outline.{Outline}
use Rattle.native_layout.specs.Outlines.{outline, IsSound}
use Rattle.type_model.specs.Module.{Module}
use Rattle.flat_types.specs.declared.flat.Flat.{Flat}
use Rattle.flat_types.specs.Flat.{all_some, flat_field, flat_within}
use Rattle.flat_types.specs.Answers.{AreFlat, IsFlatField, deepest}
use Rattle.flat_types.proofs.Levels.{field_deeper}

module _ (m : Module) where
  abbrev at : ℕ → List ℕ → Option (List Shape)
  at n fields = all_some (map (flat_field (flat_within n m) m) fields)

  -- the shapes of fields that were found, at as many levels or more
  pub record Shaped (n : ℕ) (fields : List ℕ) (fs : List Flat) : Type 0 where
    pub shapes : List Shape
    pub found : at n fields ≡ Some shapes
    pub outlines : map (λ (f : Flat). f.outline) fs ≡ map outline shapes

  pub shaped : (n : ℕ) (fields : List ℕ) (fs : List Flat) → AreFlat m fields fs → All (λ (f : Flat). f.levels ≤ n) fs → Shaped n fields fs
  shaped n [] [] are few = record { shapes = []; found = refl; outlines = refl }
  shaped n [] (f ∷ fs) are few = absurd are
  shaped n (field ∷ fields) [] are few = absurd are
  shaped n (field ∷ fields) (f ∷ fs) are few =
      let here : IsFlatField m field f = are.0 in
      let rest : Shaped n fields fs = shaped n fields fs are.1 (All-tail (λ (g : Flat). g.levels ≤ n) f fs few) in
      let first : flat_field (flat_within n m) m field ≡ Some here.kept =
      field_deeper m f.levels n field (All-head (λ (g : Flat). g.levels ≤ n) f fs few) here.kept here.within in
      record {
        shapes = here.kept ∷ rest.shapes;
        found = ap (λ (o : Option Shape). all_some (o ∷ map (flat_field (flat_within n m) m) fields)) first
            ∙ ap (option_map (λ (values : List Shape). here.kept ∷ values)) rest.found;
        outlines = ap (λ (o : Outline). o ∷ map (λ (g : Flat). g.outline) fs) here.outline_is ∙ ap (λ (os : List Outline). outline here.kept ∷ os) rest.outlines;
      }

  none_first : (o : Option Shape) (rest : List (Option Shape)) → o ≡ None → all_some (o ∷ rest) ≡ None
  none_first o rest is = ap (λ (p : Option Shape). all_some (p ∷ rest)) is

  none_later : (o : Option Shape) (rest : List (Option Shape)) → all_some rest ≡ None → all_some (o ∷ rest) ≡ None
  none_later None rest none = refl
  none_later (Some x) rest none = ap (option_map (λ (values : List Shape). x ∷ values)) none

  -- below the most levels of the fields not all of them are found
  pub too_few : (n : ℕ) (fields : List ℕ) (fs : List Flat) → AreFlat m fields fs → n < deepest fs → at n fields ≡ None
  too_few n [] [] are few = absurd (omega (arith, few))
  too_few n [] (f ∷ fs) are few = absurd are
  too_few n (field ∷ fields) [] are few = absurd are
  too_few n (field ∷ fields) (f ∷ fs) are few = by (λ later. too_few n fields fs are.1 later) (nat_lt n f.levels) refl
    where
      by : (n < deepest fs → at n fields ≡ None) → (b : Bool) → nat_lt n f.levels ≡ b → at n (field ∷ fields) ≡ None
      by rest true is = none_first (flat_field (flat_within n m) m field) (map (flat_field (flat_within n m) m) fields) (are.0.least n (grind (arith, nat_tests)))
      by rest false is = none_later (flat_field (flat_within n m) m field) (map (flat_field (flat_within n m) m) fields) (rest (grind (arith, nat_tests)))

  pub pushed : (fields : List ℕ) (fs : List Flat) (field : ℕ) (f : Flat) → AreFlat m fields fs → IsFlatField m field f → AreFlat m (fields ++ field ∷ []) (fs ++ f ∷ [])
  pushed [] [] field f are is = (is, tt)
  pushed [] (g ∷ gs) field f are is = absurd are
  pushed (k ∷ ks) [] field f are is = absurd are
  pushed (k ∷ ks) (g ∷ gs) field f are is = (are.0, pushed ks gs field f are.1 is)

  -- a field that isn't found leaves the struct unfound
  pub none_at : (n : ℕ) (fields : List ℕ) (k : ℕ) (d : ℕ) → k < length fields → flat_field (flat_within n m) m (get_or fields k d) ≡ None → at n fields ≡ None
  none_at n [] k d within none = absurd (omega arith)
  none_at n (field ∷ fields) zero d within none = none_first (flat_field (flat_within n m) m field) (map (flat_field (flat_within n m) m) fields) none
  none_at n (field ∷ fields) (suc k) d within none =
      none_later (flat_field (flat_within n m) m field) (map (flat_field (flat_within n m) m) fields) (none_at n fields k d (omega arith) none)

  pub sound : (fields : List ℕ) (fs : List Flat) → AreFlat m fields fs → All IsSound (map (λ (f : Flat). f.outline) fs)
  sound [] [] are = λ k d within. absurd (omega arith)
  sound [] (f ∷ fs) are = absurd are
  sound (field ∷ fields) [] are = absurd are
  sound (field ∷ fields) (f ∷ fs) are = All-cons IsSound f.outline (map (λ (g : Flat). g.outline) fs) are.0.sound (sound fields fs are.1)
