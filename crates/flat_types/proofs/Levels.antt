-- More levels find what fewer levels find.
use Rattle.std.proofs.Common.{◌≡◌, ◌≤◌, ℕ, zero, suc, ◌+◌, ◌-◌, Bool, true, false, cond, List, [], ◌∷◌, map, Option, Some, None, refl, sym, ap, ◌∙◌, arith}
use Rattle.std.specs.Option.{option_or, option_and_then, option_map}
use Rattle.managed_value.specs.declared.names.TypeId.{TypeId}
use Rattle.native_layout.specs.declared.shapes.Shape as shape
use Rattle.native_layout.specs.declared.shapes.Shape.{Shape}
use Rattle.native_layout.specs.declared.shapes.StructShape.{StructShape}
use Rattle.type_model.specs.Module.{Module}
use Rattle.type_model.specs.Types.{field_type}
use Rattle.flat_types.specs.declared.structs.Facts.{Facts}
use Rattle.flat_types.specs.Flat.{all_some, facts_of, flat_by, flat_field, flat_part, flat_within, integer_place, integer_shape, is_struct, keep, struct_by}

-- one answer is there wherever another is, and then the same
abbrev pub Keeps : {A : Type 0} → Option A → Option A → Type 0
Keeps {A} o p = (x : A) → o ≡ Some x → p ≡ Some x

then_keeps : {A B : Type 0} (f : A → Option B) (o p : Option A) → Keeps o p → Keeps (option_and_then f o) (option_and_then f p)
then_keeps f None p keeps x is = absurd (cc)
then_keeps f (Some a) p keeps x is = ap (option_and_then f) (keeps a refl) ∙ is

pub all_cons : {A : Type 0} (o p : Option A) (rest more : List (Option A)) → Keeps o p → Keeps (all_some rest) (all_some more)
    → Keeps (all_some (o ∷ rest)) (all_some (p ∷ more))
all_cons None p rest more heads tails xs is = absurd (cc)
all_cons {A} (Some x) p rest more heads tails xs is =
    ap (λ (q : Option A). all_some (q ∷ more)) (heads x refl) ∙ by (all_some rest) refl is
  where
    by : (o : Option (List A)) → all_some rest ≡ o → option_map (λ (values : List A). x ∷ values) o ≡ Some xs
        → option_map (λ (values : List A). x ∷ values) (all_some more) ≡ Some xs
    by None e are = absurd (cc)
    by (Some ys) e are = ap (option_map (λ (values : List A). x ∷ values)) (tails ys e) ∙ are

part_by : (o : Option Shape) (b : Bool) (i w : Option StructShape) → Keeps i w
    → Keeps (option_or o (cond b (option_map shape.Struct i) None)) (option_or o (cond b (option_map shape.Struct w) None))
part_by (Some y) b i w keeps x is = is
part_by None true None w keeps x is = absurd (cc)
part_by None true (Some s) w keeps x is = ap (option_map shape.Struct) (keeps s refl) ∙ is
part_by None false i w keeps x is = is

module _ (m : Module) (inner wider : ℕ → Option StructShape) (keeps : (t : ℕ) → Keeps (inner t) (wider t)) where
  part_keeps : (id : TypeId) → Keeps (flat_part inner m id) (flat_part wider m id)
  part_keeps id = part_by (option_and_then integer_shape (integer_place m id)) (is_struct m id) (inner id.base) (wider id.base) (keeps id.base)

  pub field_keeps : (f : ℕ) → Keeps (flat_field inner m f) (flat_field wider m f)
  field_keeps f x is = by (field_type m f) is
    where
      by : (o : Option TypeId) → option_and_then (flat_part inner m) o ≡ Some x → option_and_then (flat_part wider m) o ≡ Some x
      by None none = none
      by (Some id) found = part_keeps id x found

  fields_keep : (fs : List ℕ) → Keeps (all_some (map (flat_field inner m) fs)) (all_some (map (flat_field wider m) fs))
  fields_keep [] xs is = is
  fields_keep (f ∷ fs) xs is =
      all_cons (flat_field inner m f) (flat_field wider m f) (map (flat_field inner m) fs) (map (flat_field wider m) fs)
      (field_keeps f) (fields_keep fs) xs is

  struct_keeps : (t : ℕ) (facts : Option Facts) → Keeps (option_and_then (flat_by inner m t) facts) (option_and_then (flat_by wider m t) facts)
  struct_keeps t None s is = is
  struct_keeps t (Some facts) s is =
      then_keeps (λ shapes. keep (struct_by t facts shapes)) (all_some (map (flat_field inner m) facts.fields))
      (all_some (map (flat_field wider m) facts.fields)) (fields_keep facts.fields) s is

module _ (m : Module) where
  pub deeper : (n more t : ℕ) → Keeps (flat_within n m t) (flat_within (n + more) m t)
  unfolding flat_within
  deeper zero more t s is = absurd (cc)
  deeper (suc n) more t s is =
      let next : suc n + more ≡ suc (n + more) = omega arith in
      ap (λ (k : ℕ). flat_within k m t) next
      ∙ struct_keeps m (flat_within n m) (flat_within (n + more) m) (deeper n more) t (facts_of m t) s is

  pub same_deeper : (n k t : ℕ) → n ≤ k → Keeps (flat_within n m t) (flat_within k m t)
  same_deeper n k t fewer s is =
      let all : n + (k - n) ≡ k = omega arith in
      ap (λ (j : ℕ). flat_within j m t) (sym all) ∙ deeper n (k - n) t s is

  pub none_fewer : (n k t : ℕ) → n ≤ k → flat_within k m t ≡ None → flat_within n m t ≡ None
  none_fewer n k t fewer none = by (flat_within n m t) refl
    where
      by : (o : Option StructShape) → flat_within n m t ≡ o → o ≡ None
      by None is = refl
      by (Some s) is = absurd (let found = same_deeper n k t fewer s is in cc)

  pub field_deeper : (n k f : ℕ) → n ≤ k → Keeps (flat_field (flat_within n m) m f) (flat_field (flat_within k m) m f)
  field_deeper n k f fewer = field_keeps m (flat_within n m) (flat_within k m) (λ t. same_deeper n k t fewer) f

  pub none_at_first : (n t : ℕ) → n ≡ 0 → flat_within n m t ≡ None
  unfolding flat_within
  none_at_first n t first = ap (λ (k : ℕ). flat_within k m t) first

  pub no_facts : (n t : ℕ) → facts_of m t ≡ None → flat_within (n + 1) m t ≡ None
  unfolding flat_within
  no_facts n t none =
      let next : n + 1 ≡ suc n = omega arith in
      ap (λ (k : ℕ). flat_within k m t) next ∙ ap (option_and_then (flat_by (flat_within n m) m t)) none

  pub no_fields : (n t : ℕ) (facts : Facts) → facts_of m t ≡ Some facts → all_some (map (flat_field (flat_within n m) m) facts.fields) ≡ None
      → flat_within (n + 1) m t ≡ None
  unfolding flat_within
  no_fields n t facts is none =
      let next : n + 1 ≡ suc n = omega arith in
      ap (λ (k : ℕ). flat_within k m t) next
      ∙ ap (option_and_then (flat_by (flat_within n m) m t)) is
      ∙ ap (option_and_then (λ (shapes : List Shape). keep (struct_by t facts shapes))) none
