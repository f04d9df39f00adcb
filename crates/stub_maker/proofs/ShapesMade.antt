-- Shapes that are made field by field.
use Rattle.std.proofs.Common.{◌≡◌, ℕ, zero, suc, ◌+◌, ◌<◌, true, List, [], ◌∷◌, ◌++◌, map, drop, drop-cons, length, get_or, append_assoc, Option, Some, None, is_some, arith, refl, sym, ◌∙◌, ap}
use Rattle.std.specs.Option.{option_and_then, option_map}
use Rattle.native_layout.specs.declared.shapes.Shape.{Shape, Struct}
use Rattle.native_layout.specs.declared.shapes.StructShape.{StructShape}
use Rattle.type_model.specs.Module.{Module}
use Rattle.stub_maker.specs.declared.facts.FieldFacts.{FieldFacts}
use Rattle.stub_maker.specs.declared.facts.StructFacts.{StructFacts}
use Rattle.stub_maker.specs.Described.{facts_of, known_of, struct_facts}
use Rattle.stub_maker.specs.Facts.{TypeFacts, all_some, field_shape, known_after, struct_shape}
use Rattle.stub_maker.specs.Shapes.{Known}
use Rattle.stub_maker.proofs.Findings.{after_next}
use Rattle.stub_maker.proofs.Monotone.{struct_kept}
use Rattle.stub_maker.proofs.Rising.{rises}

-- the shapes of the fields from one on, after those that are there
abbrev pub shapes_after : Known → List Shape → List FieldFacts → Option (List Shape)
shapes_after known items fields = option_map (λ shapes. items ++ shapes) (all_some (map (field_shape known) fields))

one_shape : (items : List Shape) (s : Shape) (shape : Option Shape) (more : List (Option Shape)) → shape ≡ Some s
    → option_map (λ shapes. items ++ shapes) (all_some (shape ∷ more)) ≡ option_map (λ shapes. (items ++ s ∷ []) ++ shapes) (all_some more)
one_shape items s shape more is =
    ap (λ o. option_map (λ shapes. items ++ shapes) (all_some (o ∷ more))) is ∙ go (all_some more)
  where
    go : (rest : Option (List Shape)) → option_map (λ shapes. items ++ shapes) (option_map (λ values. s ∷ values) rest) ≡ option_map (λ shapes. (items ++ s ∷ []) ++ shapes) rest
    go None = refl
    go (Some ss) = ap Some (sym (append_assoc items (s ∷ []) ss))

pub shapes_step : (known : Known) (fields : List FieldFacts) (k : ℕ) (d : FieldFacts) (whole : Option (List Shape)) (items : List Shape) (s : Shape) → k < length fields
    → field_shape known (get_or fields k d) ≡ Some s → whole ≡ shapes_after known items (drop k fields)
    → whole ≡ shapes_after known (items ++ s ∷ []) (drop (k + 1) fields)
shapes_step known fields k d whole items s within is all =
    let one : suc k ≡ k + 1 = omega arith in
    let split : drop k fields ≡ get_or fields k d ∷ drop (k + 1) fields = drop-cons fields k d within ∙ ap (λ n. get_or fields k d ∷ drop n fields) one in
    all ∙ (ap (shapes_after known items) split ∙ one_shape items s (field_shape known (get_or fields k d)) (map (field_shape known) (drop (k + 1) fields)) is)

there : {A : Type 0} (o : Option A) → is_some o ≡ true → (a : A) × (o ≡ Some a)
there None h = absurd (cc)
there (Some a) h = (a, refl)

-- a value type that is known has the shape that its fields give by what is known
pub known_shape : (facts : TypeFacts) (n t : ℕ) (f : StructFacts) (s : StructShape) → facts.struct_of t ≡ Some f → (known_after facts n).struct_of t ≡ Some s
    → struct_shape (known_after facts n) f ≡ Some s
unfolding known_after
known_shape facts zero t f s is known = absurd (cc)
known_shape facts (suc n) t f s is known =
    let before : struct_shape (known_after facts n) f ≡ Some s = sym (ap (option_and_then (struct_shape (known_after facts n))) is) ∙ known in
    let more = after_next facts (rises facts) n in
    struct_kept (known_after facts n) (known_after facts (suc n)) more.structs more.callable f s before

abbrev pub struct_with : StructFacts → List Shape → StructShape
struct_with f shapes = record {
  ty = f.ty;
  pack = f.pack;
  least = f.least;
  explicit = f.explicit;
  fields = shapes;
  offsets = map (λ x. x.offset) f.fields;
}

pub struct_made : (m : Module) (t : ℕ) (f : StructFacts) (shapes : List Shape) (s : StructShape) → is_some ((known_of m).struct_of t) ≡ true → struct_facts m t ≡ Some f
    → all_some (map (field_shape (known_of m)) f.fields) ≡ Some shapes → s ≡ struct_with f shapes → option_map Struct ((known_of m).struct_of t) ≡ Some (Struct s)
unfolding known_of facts_of
struct_made m t f shapes s some is all made =
    let facts : TypeFacts = facts_of m in
    let n : ℕ = facts.count + facts.count in
    let has = there ((known_after facts n).struct_of t) some in
    let known : struct_shape (known_after facts n) f ≡ Some has.0 = known_shape facts n t f has.0 is has.1 in
    let built : struct_shape (known_after facts n) f ≡ Some (struct_with f shapes) = ap (option_map (struct_with f)) all in
    ap (option_map Struct) (has.1 ∙ (sym known ∙ built)) ∙ ap (λ x. Some (Struct x)) (sym made)
