use Rattle.std.proofs.Common.{◌≤◌, ◌+◌, ℕ, Some, map, All, sym, ◌∙◌, subst, arith}
use Rattle.native_layout.specs.Outlines.{IsSound, OutlinesStruct}
use Rattle.flat_types.specs.declared.flat.Flat.{Flat}
use Rattle.flat_types.specs.Answers.{TypeAnswers, deepest}
use Rattle.flat_types.proofs.FieldsFound.{sound}
use Rattle.flat_types.proofs.StructsFound.{deepest_within, struct_found, struct_missed}
use Rattle.flat_types.proofs.flat.struct_of.Goals as goal

pub structure-requires : goal.structure-requires
structure-requires c =
    subst (All IsSound) (sym (c.as_slice.ensures ∙ c.in_ok-outlines.ensures))
    (sound c.args.types.now c.args.facts.now.fields c.args.fields.now c.requires.fields)

pub overflow_add-result : goal.overflow_add-result
overflow_add-result c =
    let few : deepest c.args.fields.now ≤ c.args.left = deepest_within c.args.left c.args.fields.now c.requires.few in
    omega (arith, few, c.deepest.ensures, c.requires.left)

pub returns-then-is_kept : goal.returns-then-is_kept
returns-then-is_kept c =
    let told : OutlinesStruct c.args.facts.now.pack c.args.facts.now.least c.args.facts.now.explicit (map (λ (f : Flat). f.outline) c.args.fields.now) c.args.facts.now.offsets c.in_ok-outline.outline =
    λ ty shapes are. c.in_ok-outline.ensures.value ty shapes (c.as_slice.ensures ∙ c.in_ok-outlines.ensures ∙ are) in
    let found = struct_found c.args.types.now c.args.t c.args.facts.now c.args.fields.now c.in_ok-outline.outline c.requires.is c.requires.fields told c.args.left c.requires.few c.in_ok-outline.ensures.sound (sym c.is_kept.ensures ∙ c.if-is_kept.true) in
    subst (λ (n : ℕ). TypeAnswers c.args.types.now (c.args.left + 1) c.args.t (Some (record { outline = c.in_ok-outline.outline; levels = n + 1 }))) (sym c.deepest.ensures) found

pub returns : goal.returns
returns c =
    let told : OutlinesStruct c.args.facts.now.pack c.args.facts.now.least c.args.facts.now.explicit (map (λ (f : Flat). f.outline) c.args.fields.now) c.args.facts.now.offsets c.in_ok-outline.outline =
    λ ty shapes are. c.in_ok-outline.ensures.value ty shapes (c.as_slice.ensures ∙ c.in_ok-outlines.ensures ∙ are) in
    struct_missed c.args.types.now c.args.t c.args.facts.now c.args.fields.now c.in_ok-outline.outline c.requires.is c.requires.fields told c.args.left c.requires.few (sym c.is_kept.ensures ∙ c.if-is_kept.false)
