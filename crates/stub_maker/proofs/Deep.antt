-- How deep shapes are that are made field by field.
use Rattle.std.proofs.Common.{◌≡◌, ℕ, zero, suc, ◌+◌, ◌<◌, ◌≤◌, max, true, false, List, [], ◌∷◌, ◌++◌, map, drop, drop-cons, length, get_or, Option, Some, None, is_some, arith, sym, ◌∙◌, ap, rules}
use Rattle.std.specs.Option.{option_and_then, option_map}
use Rattle.native_layout.specs.declared.shapes.Shape as shape
use Rattle.native_layout.specs.declared.shapes.Shape.{Shape, the_lemmas}
use Rattle.native_layout.specs.declared.shapes.StructShape.{StructShape}
use Rattle.native_layout.specs.Shapes.{nesting}
use Rattle.native_layout.specs.Struct.{greatest}
use Rattle.native_layout.proofs.Numbers.{greatest-least}
use Rattle.type_model.specs.Module.{Module}
use Rattle.stub_maker.specs.declared.facts.FieldFacts.{FieldFacts}
use Rattle.stub_maker.specs.declared.facts.StructFacts.{StructFacts}
use Rattle.stub_maker.specs.declared.kinds.FieldForm.{FieldForm}
use Rattle.stub_maker.specs.declared.kinds.FieldForm.TheVariants.{InlineArray}
use Rattle.stub_maker.specs.declared.kinds.Form.{Form}
use Rattle.stub_maker.specs.Entries.{shape_of_field_form}
use Rattle.stub_maker.specs.Described.{facts_of, known_of, struct_facts}
use Rattle.stub_maker.specs.Facts.{TypeFacts, all_some, field_shape, known_after, struct_shape}
use Rattle.stub_maker.specs.InOrder.{all_there, mapped_some}
use Rattle.stub_maker.specs.Shapes.{Known, shape_of_form}
use Rattle.stub_maker.specs.Trees.{IsTree, deepest_of}
use Rattle.stub_maker.proofs.ShapesMade.{known_shape, shapes_after, struct_with}

pub nesting_struct : (s : StructShape) → nesting (shape.Struct s) ≡ 1 + deepest_of s.fields
nesting_struct s = search (rules, the_lemmas)

pub nesting_array : (base : ℕ) (s : Shape) (count : ℕ) → nesting (shape.InlineArray base s count) ≡ 1 + nesting s
nesting_array base s count = search (rules, the_lemmas)

-- an array in place of what is too deep is too deep itself
pub array_deep : (known : Known) (form : Option FieldForm) (base : ℕ) (element : Form) (count left : ℕ) (said made : Option Shape)
    → form ≡ Some (InlineArray base element count) → option_and_then (shape_of_field_form known) form ≡ said → made ≡ None
    → IsTree nesting left made (shape_of_form known element) → IsTree nesting left None said
array_deep known form base element count left said (Some s) of says nothing made a there = absurd (cc)
array_deep known form base element count left said None of says nothing none a there =
    let is : option_map (λ (s : Shape). shape.InlineArray base s count) (shape_of_form known element) ≡ Some a =
    sym (ap (option_and_then (shape_of_field_form known)) of) ∙ (says ∙ there) in
    let m = mapped_some (λ (s : Shape). shape.InlineArray base s count) (shape_of_form known element) a is in
    let inner : left < nesting m.value = none m.value m.was in
    let outer : nesting a ≡ 1 + nesting m.value = ap nesting (sym m.is) ∙ nesting_array base m.value count in
    omega arith

known_needs : (facts : TypeFacts) (n t : ℕ) → is_some ((known_after facts n).struct_of t) ≡ true → facts.struct_of t ≡ None → ⊥
unfolding known_after
known_needs facts zero t some none = cc
known_needs facts (suc n) t some none =
    let no : is_some ((known_after facts (suc n)).struct_of t) ≡ false = ap (λ (o : Option StructFacts). is_some (option_and_then (struct_shape (known_after facts n)) o)) none in
    cc

-- a value type that is known has fields
pub has_facts : (m : Module) (t : ℕ) → is_some ((known_of m).struct_of t) ≡ true → struct_facts m t ≡ None → ⊥
unfolding known_of facts_of
has_facts m t some none = known_needs (facts_of m) ((facts_of m).count + (facts_of m).count) t some none

-- a struct is one level above its fields
pub struct_deep : (m : Module) (t : ℕ) (f : StructFacts) (left : ℕ) → struct_facts m t ≡ Some f
    → IsTree deepest_of left None (all_some (map (field_shape (known_of m)) f.fields))
    → IsTree nesting (left + 1) None (option_map shape.Struct ((known_of m).struct_of t))
unfolding known_of facts_of
struct_deep m t f left is none a there =
    let facts : TypeFacts = facts_of m in
    let n : ℕ = facts.count + facts.count in
    let v = mapped_some shape.Struct ((known_after facts n).struct_of t) a there in
    let known : struct_shape (known_after facts n) f ≡ Some v.value = known_shape facts n t f v.value is v.was in
    let all = mapped_some (struct_with f) (all_some (map (field_shape (known_after facts n)) f.fields)) v.value known in
    let inner : left < deepest_of all.value = none all.value all.was in
    let fields : deepest_of all.value ≡ deepest_of v.value.fields = ap (λ (s : StructShape). deepest_of s.fields) all.is in
    let outer : nesting a ≡ 1 + deepest_of v.value.fields = ap nesting (sym v.is) ∙ nesting_struct v.value in
    omega arith

-- the deepest of some shapes is as deep as each of them
within_deepest : (least : ℕ) (before : List Shape) (s : Shape) (after : List Shape) → nesting s ≤ greatest least (map nesting (before ++ s ∷ after))
within_deepest least [] s after = let least_is : max least (nesting s) ≤ greatest (max least (nesting s)) (map nesting after) = greatest-least (max least (nesting s)) (map nesting after) in omega arith
within_deepest least (b ∷ before) s after = within_deepest (max least (nesting b)) before s after

deep_among : (items : List Shape) (first : Shape) (others value whole : List Shape) (left : ℕ) → first ∷ others ≡ value → items ++ value ≡ whole → left < nesting first
    → left < deepest_of whole
deep_among items first others value whole left are is inner =
    let deep : nesting first ≤ deepest_of (items ++ first ∷ others) = within_deepest 0 items first others in
    let same : deepest_of (items ++ first ∷ others) ≡ deepest_of whole = ap deepest_of (ap (λ (x : List Shape). items ++ x) are ∙ is) in
    omega arith

-- where a field is too deep, the fields are
pub fields_deep : (known : Known) (fields : List FieldFacts) (k : ℕ) (d : FieldFacts) (items : List Shape) (left : ℕ) (made : Option Shape) → k < length fields
    → all_some (map (field_shape known) fields) ≡ shapes_after known items (drop k fields)
    → made ≡ None → IsTree nesting left made (field_shape known (get_or fields k d))
    → IsTree deepest_of left None (all_some (map (field_shape known) fields))
fields_deep known fields k d items left (Some x) within all nothing made a there = absurd (cc)
fields_deep known fields k d items left None within all nothing none a there =
    let one : suc k ≡ k + 1 = omega arith in
    let split : drop k fields ≡ get_or fields k d ∷ drop (k + 1) fields = drop-cons fields k d within ∙ ap (λ n. get_or fields k d ∷ drop n fields) one in
    let rest : shapes_after known items (get_or fields k d ∷ drop (k + 1) fields) ≡ Some a = sym (ap (shapes_after known items) split) ∙ (sym all ∙ there) in
    let m = mapped_some (λ (shapes : List Shape). items ++ shapes) (all_some (map (field_shape known) (get_or fields k d ∷ drop (k + 1) fields))) a rest in
    let parts = all_there (field_shape known (get_or fields k d)) (map (field_shape known) (drop (k + 1) fields)) m.value m.was in
    deep_among items parts.first parts.others m.value a left parts.are m.is (none parts.first parts.was)
