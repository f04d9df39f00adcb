-- Structs that are known by their rules, their written offsets and the extents of their fields.
use Rattle.std.proofs.Common.{◌≡◌, ℕ, Bool, true, false, ◌&&◌, ◌==◌, List, map, length, Option, Result, refl, ◌∙◌, ap, subst}
use Rattle.std.proofs.lemmas.List.{length-map}
use Rattle.std.specs.List.{list_all}
use Rattle.native_layout.specs.declared.extent.Extent.{Extent}
use Rattle.native_layout.specs.declared.fields.LayoutRules.{LayoutRules}
use Rattle.native_layout.specs.declared.shapes.Layout.{Layout}
use Rattle.native_layout.specs.declared.shapes.StructShape.{StructShape}
use Rattle.native_layout.specs.declared.refused.LayoutBad.{LayoutBad}
use Rattle.native_layout.specs.Struct.{Measure, is_integral, is_packing}
use Rattle.native_layout.specs.Shapes.{measure}
use Rattle.native_layout.specs.Answer.{Answers, layout_of}
use Rattle.native_layout.specs.Placed.{AreExtents, HasFields, cap}
use Rattle.native_layout.specs.Ruled.{AnswersRuled, AreRuled, ruled, rules_by}

many_ruled : (rules : LayoutRules) (es : List Extent) (fields : List Measure) → AreRuled rules es fields → length es ≡ length fields
many_ruled rules es fields are =
    ap length are.extents ∙ (length-map (map (λ (m : Measure). m.extent) fields) cap ∙ length-map fields (λ (m : Measure). m.extent))

pub has_fields : (rules : LayoutRules) (offsets : List (Option ℕ)) (es : List Extent) (fields : List Measure) → AreRuled rules es fields
    → (length es == 0) ≡ false → is_packing rules.pack ≡ true → HasFields (ruled rules offsets fields)
has_fields rules offsets es fields are some packing = record {
  nested = are.stand;
  some = subst (λ (n : ℕ). (n == 0) ≡ false) (many_ruled rules es fields are) some;
  packing = packing;
}

and_true : (a b c : Bool) → a ≡ (b && c) → b ≡ true → a ≡ c
and_true a true c is h = is
and_true a false c is h = absurd (cc)

pub overlap_is : (rules : LayoutRules) (offsets : List (Option ℕ)) (es : List Extent) (fields : List Measure) → AreRuled rules es fields
    → rules.explicit ≡ true → rules.overlap ≡ is_integral (ruled rules offsets fields)
overlap_is rules offsets es fields are e = and_true rules.overlap rules.explicit (list_all (λ (m : Measure). m.integral) fields) are.overlap e

pub layout_ruled : (s : StructShape) (rules : LayoutRules) (es : List Extent) (result : Result Layout LayoutBad) → rules ≡ rules_by s
    → AreExtents (map measure s.fields) es → AnswersRuled rules s.offsets es result → Answers result (layout_of s)
layout_ruled s rules es result is are answers =
    let here : AnswersRuled (rules_by s) s.offsets es result = subst (λ (r : LayoutRules). AnswersRuled r s.offsets es result) is answers in
    here (map measure s.fields) (record { stand = are.stand; extents = are.extents; overlap = refl })
