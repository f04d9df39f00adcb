-- What is kept as bytes is made of integers alone.
use Rattle.std.proofs.Common.{◌≡◌, ℕ, zero, suc, ◌-◌, ◌^◌, Bool, true, false, ◌&&◌, cond, List, [], ◌∷◌, map, All, Option, Some, None, slice_get, refl, sym, ap, subst, ◌∙◌, arith}
use Rattle.std.specs.Prelude.{nat_le, ⊤}
use Rattle.std.specs.Option.{option_or, option_and_then, option_map}
use Rattle.std.specs.List.{list_all}
use Rattle.std.proofs.lemmas.Bool.Decides.{nat_tests}
use Rattle.std.proofs.lemmas.List.Elements.{All-cons}
use Rattle.std.proofs.lemmas.Option.{slice_get_within, get_or_from_slice_get}
use Rattle.managed_value.specs.declared.names.TypeId.{TypeId}
use Rattle.native_layout.specs.declared.shapes.Shape as shape
use Rattle.native_layout.specs.declared.shapes.Shape.{Shape}
use Rattle.native_layout.specs.declared.shapes.Shape.TheFolds.{fold_out-Shape}
use Rattle.native_layout.specs.declared.shapes.StructShape.{StructShape}
use Rattle.native_layout.specs.Struct.{Measure}
use Rattle.native_layout.specs.Shapes.{flat, measure, measure_step, parts_of, stands, struct_step}
use Rattle.native_layout.proofs.Folds.{measure_struct}
use Rattle.type_model.specs.Module.{Module}
use Rattle.type_model.specs.Types.{field_type}
use Rattle.flat_types.specs.declared.structs.Facts.{Facts}
use Rattle.flat_types.specs.Flat.{all_some, facts_of, flat_by, flat_field, flat_part, flat_shape, flat_within, integer_place, integer_shape, integer_shapes, is_struct, keep, most_levels, struct_by}
use Rattle.flat_types.specs.Laws.{IsOfIntegers}

abbrev IsIntegral : Shape → Type 0
IsIntegral x = (measure x).integral ≡ true

int : (w : ℕ) (s : Bool) → IsIntegral (shape.Int w s)
unfolding shape.out-Shape denote.Hole.Carrier.out
int w s = ap (λ (m : Measure). m.integral) (fold_out-Shape Measure Measure measure_step struct_step (shape.Int w s))

native : (s : Bool) → IsIntegral (shape.Native s)
unfolding shape.out-Shape denote.Hole.Carrier.out
native s = ap (λ (m : Measure). m.integral) (fold_out-Shape Measure Measure measure_step struct_step (shape.Native s))

none_integral : All IsIntegral []
none_integral k d within = absurd (omega (arith, within))

and_one : (x : Shape) (xs : List Shape) → IsIntegral x → All IsIntegral xs → All IsIntegral (x ∷ xs)
and_one x xs one rest = All-cons IsIntegral x xs one rest

integers : All IsIntegral integer_shapes
integers =
    let l9 : All IsIntegral (shape.Native false ∷ []) = and_one (shape.Native false) ([]) (native false) none_integral in
    let l8 : All IsIntegral (shape.Native true ∷ shape.Native false ∷ []) = and_one (shape.Native true) (shape.Native false ∷ []) (native true) l9 in
    let l7 : All IsIntegral (shape.Int 8 false ∷ shape.Native true ∷ shape.Native false ∷ []) = and_one (shape.Int 8 false) (shape.Native true ∷ shape.Native false ∷ []) (int 8 false) l8 in
    let l6 : All IsIntegral (shape.Int 8 true ∷ shape.Int 8 false ∷ shape.Native true ∷ shape.Native false ∷ []) = and_one (shape.Int 8 true) (shape.Int 8 false ∷ shape.Native true ∷ shape.Native false ∷ []) (int 8 true) l7 in
    let l5 : All IsIntegral (shape.Int 4 false ∷ shape.Int 8 true ∷ shape.Int 8 false ∷ shape.Native true ∷ shape.Native false ∷ []) = and_one (shape.Int 4 false) (shape.Int 8 true ∷ shape.Int 8 false ∷ shape.Native true ∷ shape.Native false ∷ []) (int 4 false) l6 in
    let l4 : All IsIntegral (shape.Int 4 true ∷ shape.Int 4 false ∷ shape.Int 8 true ∷ shape.Int 8 false ∷ shape.Native true ∷ shape.Native false ∷ []) = and_one (shape.Int 4 true) (shape.Int 4 false ∷ shape.Int 8 true ∷ shape.Int 8 false ∷ shape.Native true ∷ shape.Native false ∷ []) (int 4 true) l5 in
    let l3 : All IsIntegral (shape.Int 2 false ∷ shape.Int 4 true ∷ shape.Int 4 false ∷ shape.Int 8 true ∷ shape.Int 8 false ∷ shape.Native true ∷ shape.Native false ∷ []) = and_one (shape.Int 2 false) (shape.Int 4 true ∷ shape.Int 4 false ∷ shape.Int 8 true ∷ shape.Int 8 false ∷ shape.Native true ∷ shape.Native false ∷ []) (int 2 false) l4 in
    let l2 : All IsIntegral (shape.Int 2 true ∷ shape.Int 2 false ∷ shape.Int 4 true ∷ shape.Int 4 false ∷ shape.Int 8 true ∷ shape.Int 8 false ∷ shape.Native true ∷ shape.Native false ∷ []) = and_one (shape.Int 2 true) (shape.Int 2 false ∷ shape.Int 4 true ∷ shape.Int 4 false ∷ shape.Int 8 true ∷ shape.Int 8 false ∷ shape.Native true ∷ shape.Native false ∷ []) (int 2 true) l3 in
    let l1 : All IsIntegral (shape.Int 1 false ∷ shape.Int 2 true ∷ shape.Int 2 false ∷ shape.Int 4 true ∷ shape.Int 4 false ∷ shape.Int 8 true ∷ shape.Int 8 false ∷ shape.Native true ∷ shape.Native false ∷ []) = and_one (shape.Int 1 false) (shape.Int 2 true ∷ shape.Int 2 false ∷ shape.Int 4 true ∷ shape.Int 4 false ∷ shape.Int 8 true ∷ shape.Int 8 false ∷ shape.Native true ∷ shape.Native false ∷ []) (int 1 false) l2 in
    let l0 : All IsIntegral (shape.Int 1 true ∷ shape.Int 1 false ∷ shape.Int 2 true ∷ shape.Int 2 false ∷ shape.Int 4 true ∷ shape.Int 4 false ∷ shape.Int 8 true ∷ shape.Int 8 false ∷ shape.Native true ∷ shape.Native false ∷ []) = and_one (shape.Int 1 true) (shape.Int 1 false ∷ shape.Int 2 true ∷ shape.Int 2 false ∷ shape.Int 4 true ∷ shape.Int 4 false ∷ shape.Int 8 true ∷ shape.Int 8 false ∷ shape.Native true ∷ shape.Native false ∷ []) (int 1 true) l1 in
    l0

picked : (xs : List Shape) (k : ℕ) (x : Shape) → All IsIntegral xs → slice_get xs k ≡ Some x → IsIntegral x
picked xs k x all at = subst IsIntegral (get_or_from_slice_get xs k x x at) (all k x (slice_get_within xs k x at))

integer : (place : ℕ) (x : Shape) → integer_shape place ≡ Some x → IsIntegral x
integer place x is = by (nat_le 7 place) is
  where
    by : (b : Bool) → cond b (slice_get integer_shapes (place - 7)) None ≡ Some x → IsIntegral x
    by true at = picked integer_shapes (place - 7) x integers at
    by false none = absurd (cc)

-- each struct that may stand within is integral
abbrev AreIntegral : (ℕ → Option StructShape) → Type 0
AreIntegral inner = (t : ℕ) (s : StructShape) → inner t ≡ Some s → IsIntegral (shape.Struct s)

part_by : (place : Option ℕ) (b : Bool) (i : Option StructShape) → ((s : StructShape) → i ≡ Some s → IsIntegral (shape.Struct s))
    → (x : Shape) → option_or (option_and_then integer_shape place) (cond b (option_map shape.Struct i) None) ≡ Some x → IsIntegral x
part_by place b i structs x is = by (option_and_then integer_shape place) refl is
  where
    from_place : (p : Option ℕ) (y : Shape) → option_and_then integer_shape p ≡ Some y → IsIntegral y
    from_place None y none = absurd (cc)
    from_place (Some n) y found = integer n y found

    from_struct : (c : Bool) (o : Option StructShape) → ((s : StructShape) → o ≡ Some s → IsIntegral (shape.Struct s)) → cond c (option_map shape.Struct o) None ≡ Some x → IsIntegral x
    from_struct true None each none = absurd (cc)
    from_struct true (Some s) each found = subst (λ (o : Option Shape). IsThere o) found (each s refl)
      where
        IsThere : Option Shape → Type 0
        IsThere None = ⊤
        IsThere (Some y) = IsIntegral y
    from_struct false o each none = absurd (cc)

    by : (o : Option Shape) → option_and_then integer_shape place ≡ o → option_or o (cond b (option_map shape.Struct i) None) ≡ Some x → IsIntegral x
    by None from found = from_struct b i structs found
    by (Some y) from found = from_place place x (from ∙ found)

module _ (m : Module) (inner : ℕ → Option StructShape) (each : AreIntegral inner) where
  in_field : (f : ℕ) (x : Shape) → flat_field inner m f ≡ Some x → IsIntegral x
  in_field f x is = by (field_type m f) is
    where
      by : (o : Option TypeId) → option_and_then (flat_part inner m) o ≡ Some x → IsIntegral x
      by None none = absurd (cc)
      by (Some id) found = part_by (integer_place m id) (is_struct m id) (inner id.base) (each id.base) x found

  in_fields : (fs : List ℕ) (xs : List Shape) → all_some (map (flat_field inner m) fs) ≡ Some xs → list_all (λ (y : Measure). y.integral) (map measure xs) ≡ true
  in_fields [] xs is = subst (λ (o : Option (List Shape)). AllThere o) is refl
    where
      AllThere : Option (List Shape) → Type 0
      AllThere None = ⊤
      AllThere (Some ys) = list_all (λ (y : Measure). y.integral) (map measure ys) ≡ true
  in_fields (f ∷ fs) xs is = by (λ ys. in_fields fs ys) (flat_field inner m f) refl (all_some (map (flat_field inner m) fs)) refl is
    where
      by : ((ys : List Shape) → all_some (map (flat_field inner m) fs) ≡ Some ys → list_all (λ (y : Measure). y.integral) (map measure ys) ≡ true)
          → (o : Option Shape) → flat_field inner m f ≡ o → (rest : Option (List Shape)) → all_some (map (flat_field inner m) fs) ≡ rest
          → all_some (o ∷ map (flat_field inner m) fs) ≡ Some xs → list_all (λ (y : Measure). y.integral) (map measure xs) ≡ true
      by more None from rest others found = absurd (cc)
      by more (Some x) from None others found = absurd (let none = ap (option_map (λ (ys : List Shape). x ∷ ys)) others in cc)
      by more (Some x) from (Some ys) others found =
          let all : Some (x ∷ ys) ≡ Some xs = sym (ap (option_map (λ (zs : List Shape). x ∷ zs)) others) ∙ found in
          let same : x ∷ ys ≡ xs = grind (arith, all) in
          let here : (measure x).integral ≡ true = in_field f x from in
          subst (λ (zs : List Shape). list_all (λ (y : Measure). y.integral) (map measure zs) ≡ true) same
          (ap (λ (b : Bool). b && list_all (λ (y : Measure). y.integral) (map measure ys)) here ∙ more ys others)

kept_is : (s k : StructShape) (b c : Bool) → (cond (b && c) (Some s) None) ≡ Some k → (s ≡ k) × (b ≡ true) × (c ≡ true)
kept_is s k true true is = (grind (arith, is), refl, refl)
kept_is s k true false is = absurd (cc)
kept_is s k false c is = absurd (cc)

of_fields : (t : ℕ) (facts : Facts) (shapes : List Shape) → list_all (λ (y : Measure). y.integral) (map measure shapes) ≡ true
    → IsIntegral (shape.Struct (struct_by t facts shapes))
of_fields t facts shapes all = ap (λ (m : Measure). m.integral) (measure_struct (struct_by t facts shapes)) ∙ all

flat_struct : (s : StructShape) → flat (shape.Struct s) ≡ (measure (shape.Struct s)).integral
unfolding shape.out-Shape denote.Hole.Carrier.out
flat_struct s = refl

struct_integral : (m : Module) (inner : ℕ → Option StructShape) → AreIntegral inner → (t : ℕ) (facts : Option Facts) (s : StructShape)
    → option_and_then (flat_by inner m t) facts ≡ Some s → IsOfIntegers s
struct_integral m inner each t None s is = absurd (cc)
struct_integral m inner each t (Some facts) s is = by (all_some (map (flat_field inner m) facts.fields)) refl is
  where
    by : (o : Option (List Shape)) → all_some (map (flat_field inner m) facts.fields) ≡ o
        → option_and_then (λ (shapes : List Shape). keep (struct_by t facts shapes)) o ≡ Some s → IsOfIntegers s
    by None from none = absurd (cc)
    by (Some shapes) from found =
        let k : StructShape = struct_by t facts shapes in
        let kept = kept_is k s (stands (shape.Struct k)) (nat_le (parts_of (shape.Struct k)) (2 ^ 20)) found in
        let integral : IsIntegral (shape.Struct k) = of_fields t facts shapes (in_fields m inner each facts.fields shapes from) in
        subst IsOfIntegers kept.0 (record { flat = flat_struct k ∙ integral; stands = kept.1; few = grind (arith, nat_tests, kept.2) })

of_levels : (m : Module) (n t : ℕ) (s : StructShape) → flat_within n m t ≡ Some s → IsOfIntegers s
unfolding flat_within
of_levels m zero t s is = absurd (cc)
of_levels m (suc n) t s is = struct_integral m (flat_within n m) (λ u k found. sym (flat_struct k) ∙ (of_levels m n u k found).flat) t (facts_of m t) s is

pub of_integers : (m : Module) (t : ℕ) (s : StructShape) → flat_shape m t ≡ Some s → IsOfIntegers s
unfolding flat_shape
of_integers m t s is = of_levels m most_levels t s is
