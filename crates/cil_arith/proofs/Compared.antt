-- The laws of comparisons.
use Rattle.std.proofs.Common.{◌≡◌, Bool, true, false, not, ℤ, int_lt, int_le, Option, None, Some, refl, sym, ap, ◌∙◌, arith}
use Rattle.std.proofs.lemmas.Int.{ints}
use Rattle.std.proofs.lemmas.Bool.Decides.{same_from_decides, Decides-int_eq, Decides-like}
use Rattle.std.specs.Option.{option_map}
use Rattle.std.specs.Ordering.{int_eq}
use Rattle.std.specs.Int.{Width}
use Rattle.cil_arith.specs.declared.num.Num.{Num}
use Rattle.cil_arith.specs.declared.operations.CmpOp.{CmpOp}
use Rattle.cil_arith.specs.declared.operations.CmpOp.TheVariants.{Eq, Ne, Ge, GeUn, Gt, GtUn, Le, LeUn, Lt, LtUn}
use Rattle.cil_arith.specs.Kinds.{Kind, Int32, Int64, NativeInt, kind_of, width, whole, Unsigned, read, common_kind}
use Rattle.cil_arith.specs.Comparisons.{comparison, relation_at, comparison_of}
use Rattle.cil_arith.specs.Laws.{opposite, turned, ComparisonsHaveOpposites, EqualNumbersHaveOneValue}

-- ---- the tests

not_not : (b : Bool) → b ≡ not (not b)
not_not true = refl
not_not false = refl

lt-is-not-le : (x y : ℤ) → int_lt y x ≡ not (int_le x y)
lt-is-not-le x y = by (int_le x y) refl
  where
    by : (t : Bool) → int_le x y ≡ t → int_lt y x ≡ not t
    by true e = grind (arith, ints)
    by false e = grind (arith, ints)

le-is-not-lt : (x y : ℤ) → int_le y x ≡ not (int_lt x y)
le-is-not-lt x y = not_not (int_le y x) ∙ ap not (sym (lt-is-not-le y x))

eq_turns : (x y : ℤ) → int_eq x y ≡ int_eq y x
eq_turns x y = same_from_decides (int_eq x y) (int_eq y x) (Decides-int_eq x y) (Decides-like (int_eq y x) (λ e. sym e) (λ e. sym e) (Decides-int_eq y x))

opposite_at : (op : CmpOp) (w : Width) (x y : ℤ) → relation_at (comparison (opposite op)) w x y ≡ not (relation_at (comparison op) w x y)
opposite_at Eq w x y = refl
opposite_at Ne w x y = not_not (int_eq x y)
opposite_at Ge w x y = lt-is-not-le y x
opposite_at GeUn w x y = lt-is-not-le (read Unsigned w y) (read Unsigned w x)
opposite_at Gt w x y = le-is-not-lt y x
opposite_at GtUn w x y = le-is-not-lt (read Unsigned w y) (read Unsigned w x)
opposite_at Le w x y = lt-is-not-le x y
opposite_at LeUn w x y = lt-is-not-le (read Unsigned w x) (read Unsigned w y)
opposite_at Lt w x y = le-is-not-lt x y
opposite_at LtUn w x y = le-is-not-lt (read Unsigned w x) (read Unsigned w y)

turned_at : (op : CmpOp) (w : Width) (x y : ℤ) → relation_at (comparison (turned op)) w y x ≡ relation_at (comparison op) w x y
turned_at Eq w x y = eq_turns y x
turned_at Ne w x y = ap not (eq_turns y x)
turned_at Ge w x y = refl
turned_at GeUn w x y = refl
turned_at Gt w x y = refl
turned_at GtUn w x y = refl
turned_at Le w x y = refl
turned_at LeUn w x y = refl
turned_at Lt w x y = refl
turned_at LtUn w x y = refl

-- ---- at the kind in which two numbers meet

pub common_turns : (a b : Kind) → common_kind a b ≡ common_kind b a
common_turns Int32 Int32 = refl
common_turns Int32 Int64 = refl
common_turns Int32 NativeInt = refl
common_turns Int64 Int32 = refl
common_turns Int64 Int64 = refl
common_turns Int64 NativeInt = refl
common_turns NativeInt Int32 = refl
common_turns NativeInt Int64 = refl
common_turns NativeInt NativeInt = refl

mapped_not : (f g : Kind → Bool) → ((kind : Kind) → f kind ≡ not (g kind)) → (o : Option Kind) → option_map f o ≡ option_map not (option_map g o)
mapped_not f g h None = refl
mapped_not f g h (Some kind) = ap Some (h kind)

mapped_same : (f g : Kind → Bool) → ((kind : Kind) → f kind ≡ g kind) → (o : Option Kind) → option_map f o ≡ option_map g o
mapped_same f g h None = refl
mapped_same f g h (Some kind) = ap Some (h kind)

pub comparisons_have_opposites : ComparisonsHaveOpposites
comparisons_have_opposites op a b =
    let at : CmpOp → Num → Num → Kind → Bool = λ o m n kind. relation_at (comparison o) (width kind) (whole m) (whole n) in (
      mapped_not (at (opposite op) a b) (at op a b) (λ kind. opposite_at op (width kind) (whole a) (whole b)) (common_kind (kind_of a) (kind_of b)),
      ap (option_map (at (turned op) b a)) (common_turns (kind_of b) (kind_of a))
          ∙ mapped_same (at (turned op) b a) (at op a b) (λ kind. turned_at op (width kind) (whole a) (whole b)) (common_kind (kind_of a) (kind_of b)),
    )

some_same : {A : Type 0} (x y : A) → Some x ≡ Some y → x ≡ y
some_same x y e = cc

pub equal_numbers_have_one_value : EqualNumbersHaveOneValue
equal_numbers_have_one_value a b kind e =
    let f : Kind → Bool = λ k. relation_at (comparison Eq) (width k) (whole a) (whole b) in
    let is : comparison_of Eq a b ≡ Some (int_eq (whole a) (whole b)) = ap (option_map f) e in
    let decides = Decides-int_eq (whole a) (whole b) in
    (λ h. decides.0 (some_same (int_eq (whole a) (whole b)) true (sym is ∙ h)), λ h. is ∙ ap Some (decides.1 h))
