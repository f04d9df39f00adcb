use Rattle.std.proofs.Common.{◌≡◌, ◌≤◌, ◌+◌, ℕ, None, Some, List, [], ◌∷◌, ◌++◌, map, All, take, get_or, sym, ap, subst, ◌∙◌}
use Rattle.std.proofs.lemmas.List.{take_more}
use Rattle.std.proofs.lemmas.List.Elements.{All-push}
use Rattle.flat_types.specs.declared.flat.Flat.{Flat}
use Rattle.flat_types.specs.Flat.{all_some, flat_field, flat_within}
use Rattle.flat_types.specs.Answers.{AreFlat, FieldAnswers, FieldsAnswer}
use Rattle.flat_types.proofs.Levels.{no_facts, no_fields, none_at_first}
use Rattle.flat_types.proofs.FieldsFound.{none_at, pushed}
use Rattle.flat_types.proofs.Known.{not_flat}
use Rattle.flat_types.proofs.flat.FlatTypes.+finding.Goals as goal

pub find-returns-then-left-eq0-clause-value : goal.find-returns-then-left-eq0-clause-value
find-returns-then-left-eq0-clause-value t c = none_at_first c.args.types.now c.args.left c.args.t c.if-left-eq0.true

pub find_fields-returns-in-None-clause-value : goal.find_fields-returns-in-None-clause-value
find_fields-returns-in-None-clause-value t c =
    none_at c.args.types.now c.args.left c.args.fields.now c.loop-field.field-index 0 c.loop-field-test.true
    (subst (FieldAnswers c.args.types.now c.args.left (get_or c.args.fields.now c.loop-field.field-index 0)) c.in-None.is c.in_ok-f.ensures.value)

pub find_fields-loop-field-preserved : goal.find_fields-loop-field-preserved
find_fields-loop-field-preserved t c =
    let fields : List ℕ = c.args.fields.now in
    let at : ℕ = c.loop-field.field-index in
    let more : take (at + 1) fields ≡ take at fields ++ get_or fields at 0 ∷ [] = take_more fields at 0 c.loop-field-test.true in
    let here : FieldAnswers c.args.types.now c.args.left (get_or fields at 0) (Some c.in-Some.f) =
    subst (FieldAnswers c.args.types.now c.args.left (get_or fields at 0)) c.in-Some.is c.in_ok-f.ensures.value in
    let both : AreFlat c.args.types.now (take at fields ++ get_or fields at 0 ∷ []) (c.loop-field.flats ++ c.in-Some.f ∷ []) =
    pushed c.args.types.now (take at fields) c.loop-field.flats (get_or fields at 0) c.in-Some.f c.loop-field.invariant.flats here.0 in
    record {
      flats = subst (λ (fs : List ℕ). AreFlat c.args.types.now fs c.push.new.self) (sym more)
          (subst (AreFlat c.args.types.now (take at fields ++ get_or fields at 0 ∷ [])) (sym c.in_ok-push-in-Some.ensures.ok) both);
      few = subst (All (λ (f : Flat). f.levels ≤ c.args.left)) (sym c.in_ok-push-in-Some.ensures.ok)
          (All-push (λ (f : Flat). f.levels ≤ c.args.left) c.loop-field.flats c.in-Some.f c.loop-field.invariant.few here.1);
      known = c.in_ok-f.ensures.known;
    }

pub find_struct-returns-in-None-clause-value : goal.find_struct-returns-in-None-clause-value
find_struct-returns-in-None-clause-value t c =
    no_facts c.args.types.now c.args.left c.args.t (sym c.in_ok-facts.ensures ∙ c.in-None.is)

pub find_struct-returns-clause-value : goal.find_struct-returns-clause-value
find_struct-returns-clause-value t c =
    let none : FieldsAnswer c.args.types.now c.args.left c.as_slice.result.now None =
    subst (FieldsAnswer c.args.types.now c.args.left c.as_slice.result.now) c.in-None-2.is c.in_ok-fields.ensures.value in
    no_fields c.args.types.now c.args.left c.args.t c.in-Some.facts (sym c.in_ok-facts.ensures ∙ c.in-Some.is)
    (ap (λ (fs : List ℕ). all_some (map (flat_field (flat_within c.args.left c.args.types.now) c.args.types.now) fs)) (sym c.as_slice.ensures) ∙ none)

pub find-returns-in-NotFlat-clause-value : goal.find-returns-in-NotFlat-clause-value
find-returns-in-NotFlat-clause-value t c =
    not_flat c.args.types.now c.args.t c.args.left _ c.requires.few (c.requires.known c.args.t) (sym c.known_of.ensures ∙ c.in-NotFlat.is)
