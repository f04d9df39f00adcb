-- Outlines of fields, one after another.
use Rattle.std.proofs.Common.{◌≡◌, ℕ, suc, ◌+◌, ◌<◌, List, [], ◌∷◌, ◌++◌, map, drop, drop-cons, length, get_or, append_assoc, Option, Some, None, arith, refl, sym, ◌∙◌, ap}
use Rattle.std.specs.Option.{option_map}
use Rattle.native_layout.specs.declared.outlines.Outline.{Outline}
use Rattle.native_layout.specs.declared.shapes.Shape.{Shape}
use Rattle.native_layout.specs.Outlines.{outline}
use Rattle.stub_maker.specs.declared.facts.FieldFacts.{FieldFacts}
use Rattle.stub_maker.specs.Facts.{all_some, field_shape}
use Rattle.stub_maker.specs.Shapes.{Known}

-- the outlines of the fields from one on, after those that are there
abbrev pub outlines_after : Known → List Outline → List FieldFacts → Option (List Outline)
outlines_after known items fields = option_map (λ shapes. items ++ map outline shapes) (all_some (map (field_shape known) fields))

abbrev after_one : List Outline → Option Shape → Option (List Shape) → Option (List Outline)
after_one items None rest = None
after_one items (Some s) rest = option_map (λ shapes. items ++ map outline (s ∷ shapes)) rest

first_split : (known : Known) (items : List Outline) (f : FieldFacts) (rest : List FieldFacts)
    → outlines_after known items (f ∷ rest) ≡ after_one items (field_shape known f) (all_some (map (field_shape known) rest))
first_split known items f rest = go (field_shape known f) (all_some (map (field_shape known) rest)) _ refl
  where
    go : (o : Option Shape) (os : Option (List Shape)) (more : List (Option Shape)) → os ≡ all_some more
        → option_map (λ shapes. items ++ map outline shapes) (all_some (o ∷ more)) ≡ after_one items o os
    go None os more is = refl
    go (Some s) None more is = ap (λ x. option_map (λ shapes. items ++ map outline shapes) (option_map (λ values. s ∷ values) x)) (sym is)
    go (Some s) (Some ss) more is = ap (λ x. option_map (λ shapes. items ++ map outline shapes) (option_map (λ values. s ∷ values) x)) (sym is)

one_more : (items : List Outline) (o : Outline) (shape : Option Shape) (rest : Option (List Shape)) → Some o ≡ option_map outline shape
    → after_one items shape rest ≡ option_map (λ shapes. (items ++ o ∷ []) ++ map outline shapes) rest
one_more items o None rest is = absurd (cc)
one_more items o (Some s) None is = refl
one_more items o (Some s) (Some ss) is =
    let same : outline s ≡ o = cc in
    ap Some (ap (λ x. items ++ (x ∷ map outline ss)) same ∙ sym (append_assoc items (o ∷ []) (map outline ss)))

split_at : (fields : List FieldFacts) (k : ℕ) (d : FieldFacts) → k < length fields → drop k fields ≡ get_or fields k d ∷ drop (k + 1) fields
split_at fields k d within =
    let one : suc k ≡ k + 1 = omega arith in
    drop-cons fields k d within ∙ ap (λ n. get_or fields k d ∷ drop n fields) one

pub fields_step : (known : Known) (fields : List FieldFacts) (k : ℕ) (d : FieldFacts) (whole : Option (List Outline)) (items : List Outline) (o : Outline) → k < length fields
    → Some o ≡ option_map outline (field_shape known (get_or fields k d)) → whole ≡ outlines_after known items (drop k fields)
    → whole ≡ outlines_after known (items ++ o ∷ []) (drop (k + 1) fields)
fields_step known fields k d whole items o within is all =
    all ∙ (ap (outlines_after known items) (split_at fields k d within)
    ∙ (first_split known items (get_or fields k d) (drop (k + 1) fields)
    ∙ one_more items o (field_shape known (get_or fields k d)) (all_some (map (field_shape known) (drop (k + 1) fields))) is))

no_more : (items : List Outline) (shape : Option Shape) (rest : Option (List Shape)) → None ≡ option_map outline shape → after_one items shape rest ≡ None
no_more items None rest is = refl
no_more items (Some s) rest is = absurd (cc)

pub fields_stop : (known : Known) (fields : List FieldFacts) (k : ℕ) (d : FieldFacts) (whole : Option (List Outline)) (items : List Outline) → k < length fields
    → None ≡ option_map outline (field_shape known (get_or fields k d)) → whole ≡ outlines_after known items (drop k fields) → None ≡ whole
fields_stop known fields k d whole items within is all =
    sym (all ∙ (ap (outlines_after known items) (split_at fields k d within)
    ∙ (first_split known items (get_or fields k d) (drop (k + 1) fields)
    ∙ no_more items (field_shape known (get_or fields k d)) (all_some (map (field_shape known) (drop (k + 1) fields))) is)))
