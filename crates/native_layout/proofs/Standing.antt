-- Structs whose fields' outlines are known.
use Rattle.std.proofs.Common.{◌≡◌, ℕ, zero, suc, ◌<◌, Bool, true, false, not, ◌&&◌, List, [], ◌∷◌, map, length, get_or, Option, Some, None, Ok, Err, IsTrue, arith, if◌then◌else◌, refl, sym, ◌∙◌, ap}
use Rattle.std.specs.List.{list_all, position}
use Rattle.std.proofs.lemmas.List.{length-map}
use Rattle.native_layout.specs.declared.extent.Extent.{Extent}
use Rattle.native_layout.specs.declared.fields.LayoutRules.{LayoutRules}
use Rattle.native_layout.specs.declared.outlines.Outline.{Outline}
use Rattle.native_layout.specs.declared.refused.LayoutBad.TheVariants.{Outside}
use Rattle.native_layout.specs.declared.shapes.Layout.{Layout}
use Rattle.native_layout.specs.declared.shapes.Shape.{Shape}
use Rattle.native_layout.specs.Struct.{Measure, Struct, broken, is_align, struct_measure}
use Rattle.native_layout.specs.Shapes.{measure, scalar, stands}
use Rattle.native_layout.specs.Placed.{cap}
use Rattle.native_layout.specs.Ruled.{AnswersRuled, AreRuled, ruled}
use Rattle.native_layout.specs.Outlines.{extent_if, no_extent, outline}
use Rattle.native_layout.proofs.Positions.{position_none}
use Rattle.native_layout.proofs.Structs.{all_stand, broken_nested, outside_struct, stand_each, standing_struct}
use Rattle.native_layout.proofs.Summaries.{all_integral}

and_parts : (a b : Bool) → (a && b) ≡ true → (a ≡ true) × (b ≡ true)
and_parts true b h = (refl, h)
and_parts false b h = absurd (cc)

-- ---- fields that stand

each_stands : (shapes : List Shape) → list_all stands shapes ≡ true → (j : ℕ) → j < length (map measure shapes)
    → not (get_or (map measure shapes) j (scalar 1 true)).stands ≡ false
each_stands [] all j within = absurd (omega arith)
each_stands (s ∷ ss) all zero within = let parts = and_parts (stands s) (list_all stands ss) all in ap not parts.0
each_stands (s ∷ ss) all (suc j) within =
    let parts = and_parts (stands s) (list_all stands ss) all in each_stands ss parts.1 j (omega arith)

none_falls : (shapes : List Shape) → list_all stands shapes ≡ true → position (λ m. not m.stands) (map measure shapes) ≡ None
none_falls shapes all = position_none (λ (m : Measure). not m.stands) (map measure shapes) (scalar 1 true) (each_stands shapes all)

extent_told : (b : Bool) (e : Extent) → b ≡ true → (if b then cap e else no_extent) ≡ cap e
extent_told true e h = refl
extent_told false e h = absurd (cc)

extents_told : (shapes : List Shape) → list_all stands shapes ≡ true → map (λ o. o.extent) (map outline shapes) ≡ map cap (map (λ m. m.extent) (map measure shapes))
extents_told [] all = refl
extents_told (s ∷ ss) all =
    let parts = and_parts (stands s) (list_all stands ss) all in
    let here = extent_told (stands s) (measure s).extent parts.0 in
    let rest = extents_told ss parts.1 in
    rw (here, rest) refl

all_told : (shapes : List Shape) → list_all (λ o. o.stands) (map outline shapes) ≡ list_all stands shapes
all_told [] = refl
all_told (s ∷ ss) = ap (λ b. stands s && b) (all_told ss)

-- ---- the extent of a struct, by the outlines of its fields

extent_some : (m : Measure) (e : Extent) → m.stands ≡ true → e ≡ cap m.extent → Some e ≡ extent_if m
extent_some m e stands is = rw stands (ap Some is)

extent_none : (m : Measure) → m.stands ≡ false → None ≡ extent_if m
extent_none m stands = rw stands refl

-- fields in outline under rules that let them overlap where they may, each of which stands
pub record AreStanding (rules : LayoutRules) (fields : List Outline) (es : List Extent) : Type 0 where
  pub overlap : rules.overlap ≡ (rules.explicit && list_all (λ o. o.integral) fields)
  pub stand : list_all (λ o. o.stands) fields ≡ true
  pub extents : es ≡ map (λ o. o.extent) fields

ruled_fields : (rules : LayoutRules) (fields : List Outline) (es : List Extent) (shapes : List Shape) → fields ≡ map outline shapes
    → AreStanding rules fields es → AreRuled rules es (map measure shapes)
ruled_fields rules fields es shapes is are =
    let stand : list_all stands shapes ≡ true = sym (all_told shapes) ∙ (sym (ap (list_all (λ (o : Outline). o.stands)) is) ∙ are.stand) in
    record {
      stand = none_falls shapes stand;
      extents = are.extents ∙ (ap (map (λ (o : Outline). o.extent)) is ∙ extents_told shapes stand);
      overlap = are.overlap ∙ ap (λ b. rules.explicit && b) (ap (list_all (λ (o : Outline). o.integral)) is ∙ all_integral shapes);
    }

pub laid_extent : (rules : LayoutRules) (offsets : List (Option ℕ)) (fields : List Outline) (es : List Extent) (l : Layout) (shapes : List Shape) → fields ≡ map outline shapes
    → AreStanding rules fields es → AnswersRuled rules offsets es (Ok l) → IsTrue (is_align l.align)
    → Some (record { size = l.size; align = l.align }) ≡ extent_if (struct_measure (ruled rules offsets (map measure shapes)))
laid_extent rules offsets fields es l shapes is are answers align =
    let s : Struct = ruled rules offsets (map measure shapes) in
    let said = answers (map measure shapes) (ruled_fields rules fields es shapes is are) in
    let has = standing_struct (struct_measure s) s l refl said align in
    extent_some (struct_measure s) _ has.stands has.extent

pub outside_extent : (rules : LayoutRules) (offsets : List (Option ℕ)) (fields : List Outline) (es : List Extent) (field : ℕ) (shapes : List Shape) → fields ≡ map outline shapes
    → AreStanding rules fields es → AnswersRuled rules offsets es (Err (Outside field)) → None ≡ extent_if (struct_measure (ruled rules offsets (map measure shapes)))
outside_extent rules offsets fields es field shapes is are answers =
    let s : Struct = ruled rules offsets (map measure shapes) in
    let said = answers (map measure shapes) (ruled_fields rules fields es shapes is are) in
    extent_none (struct_measure s) (outside_struct (struct_measure s) s (Outside field) refl said)

some_falls : (shapes : List Shape) (o : Option ℕ) → position (λ m. not m.stands) (map measure shapes) ≡ o → list_all stands shapes ≡ false
    → (k : ℕ) × (position (λ m. not m.stands) (map measure shapes) ≡ Some k)
some_falls shapes (Some k) is falls = (k, is)
some_falls shapes None is falls =
    let all : list_all stands shapes ≡ true =
    all_stand shapes (λ k h. stand_each (map measure shapes) is k (scalar 1 true) (omega (arith, length-map shapes measure))) in
    absurd (cc)

fallen : (s : Struct) (k : ℕ) → broken s ≡ Some k → None ≡ extent_if (struct_measure s)
fallen s k is = rw is refl

pub fallen_extent : (rules : LayoutRules) (offsets : List (Option ℕ)) (fields : List Outline) (shapes : List Shape) → fields ≡ map outline shapes
    → list_all (λ o. o.stands) fields ≡ false → None ≡ extent_if (struct_measure (ruled rules offsets (map measure shapes)))
fallen_extent rules offsets fields shapes is falls =
    let some = some_falls shapes _ refl (sym (all_told shapes) ∙ (sym (ap (list_all (λ (o : Outline). o.stands)) is) ∙ falls)) in
    let s : Struct = ruled rules offsets (map measure shapes) in
    fallen s some.0 (broken_nested s some.0 some.1)
