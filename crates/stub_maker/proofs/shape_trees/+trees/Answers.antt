use Rattle.std.proofs.Common.{◌≡◌, true, List, Option, Some, None, map, is_some, arith, sym, ◌∙◌, ap, subst}
use Rattle.native_layout.specs.declared.shapes.Shape.{Shape}
use Rattle.type_model.specs.Module.{Module}
use Rattle.stub_maker.specs.declared.facts.FieldFacts.{FieldFacts}
use Rattle.stub_maker.specs.declared.kinds.FieldForm.TheVariants as FieldForm
use Rattle.stub_maker.specs.Described.{known_of, struct_facts}
use Rattle.stub_maker.specs.Facts.{all_some, field_shape}
use Rattle.stub_maker.specs.Trees.{IsTree, deepest_of}
use Rattle.stub_maker.proofs.Deep.{array_deep, fields_deep, has_facts, struct_deep}
use Rattle.stub_maker.proofs.ShapesMade.{struct_made}
use Rattle.stub_maker.proofs.shape_trees.+trees.Goals as goal

pub field_tree-returns-in-None-2 : goal.field_tree-returns-in-None-2
field_tree-returns-in-None-2 t c =
    let m : Module = c.args.known.now in
    let is : c.field_form.result ≡ Some (FieldForm.InlineArray c.in-Some-InlineArray.base c.in-Some-InlineArray.element c.in-Some-InlineArray.count) =
    c.in-Some-InlineArray.is ∙ ap Some c.in-Some-InlineArray.field-0-is in
    array_deep (known_of m) c.field_form.result c.in-Some-InlineArray.base c.in-Some-InlineArray.element c.in-Some-InlineArray.count c.args.left
    (field_shape (known_of m) c.args.field) c.in_ok-form_tree-in-Some-InlineArray.field-0 is c.field_form.ensures.form c.in-None-2.is c.in_ok-form_tree-in-Some-InlineArray.ensures

pub field_trees-returns-in-None : goal.field_trees-returns-in-None
field_trees-returns-in-None t c =
    fields_deep (known_of c.args.known.now) c.args.fields.now c.loop-field.field-index _ c.loop-field.shapes c.args.left c.in_ok-shape.field-0
    (omega arith) c.loop-field.invariant c.in-None.is c.in_ok-shape.ensures

pub struct_tree-returns-in-None : goal.struct_tree-returns-in-None
struct_tree-returns-in-None t c a there =
    let m : Module = c.args.known.now in
    let some : is_some ((known_of m).struct_of c.args.t) ≡ true = sym c.has_shape.ensures ∙ grind arith in
    let none : struct_facts m c.args.t ≡ None =
    ap (λ (x : Module). struct_facts x c.args.t) (sym c.types.ensures) ∙ (sym c.in_ok-struct_facts.ensures ∙ c.in-None.is) in
    absurd (has_facts m c.args.t some none)

pub struct_tree-returns-in-None-2 : goal.struct_tree-returns-in-None-2
struct_tree-returns-in-None-2 t c =
    let m : Module = c.args.known.now in
    let is : struct_facts m c.args.t ≡ Some c.in-Some.facts =
    ap (λ (x : Module). struct_facts x c.args.t) (sym c.types.ensures) ∙ (sym c.in_ok-struct_facts.ensures ∙ c.in-Some.is) in
    let none : IsTree deepest_of c.args.left None (all_some (map (field_shape (known_of m)) c.as_slice.result.now)) =
    subst (λ (o : Option (List Shape)). IsTree deepest_of c.args.left o (all_some (map (field_shape (known_of m)) c.as_slice.result.now))) c.in-None-2.is c.in_ok-field_trees-in-Some.ensures in
    let fields = subst (λ (fs : List FieldFacts). IsTree deepest_of c.args.left None (all_some (map (field_shape (known_of m)) fs))) c.as_slice.ensures none in
    struct_deep m c.args.t c.in-Some.facts c.args.left is fields

pub struct_tree-returns : goal.struct_tree-returns
struct_tree-returns t c =
    let m : Module = c.args.known.now in
    let some : is_some ((known_of m).struct_of c.args.t) ≡ true = sym c.has_shape.ensures ∙ grind arith in
    let is : struct_facts m c.args.t ≡ Some c.in-Some.facts =
    ap (λ (x : Module). struct_facts x c.args.t) (sym c.types.ensures) ∙ (sym c.in_ok-struct_facts.ensures ∙ c.in-Some.is) in
    let found : all_some (map (field_shape (known_of m)) c.as_slice.result.now) ≡ Some c.in-Some-2.fields =
    subst (λ (o : Option (List Shape)). IsTree deepest_of c.args.left o (all_some (map (field_shape (known_of m)) c.as_slice.result.now))) c.in-Some-2.is c.in_ok-field_trees-in-Some.ensures in
    let all = ap (λ (fs : List FieldFacts). all_some (map (field_shape (known_of m)) fs)) (sym c.as_slice.ensures) ∙ found in
    struct_made m c.args.t c.in-Some.facts c.in-Some-2.fields c.in_ok-struct_of-in-Some-2.field-0 some is all c.in_ok-struct_of-in-Some-2.ensures
