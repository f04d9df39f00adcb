-- The laws of overflow: it comes where a whole number lies outside a range.
use Rattle.std.proofs.Common.{◌≡◌, ◌↔◌, ⊎_elim, inl, inr, ℤ, Bool, true, false, if◌then◌else◌, ◌<ℤ◌, int_le, Some, Result, Ok, Err, refl, sym, ap, ◌∙◌, arith}
use Rattle.std.proofs.lemmas.Int.{ints}
use Rattle.std.proofs.lemmas.Bool.{and_cases, and_left, and_right}
use Rattle.std.specs.Int.{Width, int_wrap}
use Rattle.cil_arith.specs.declared.num.Num.{Num}
use Rattle.cil_arith.specs.declared.num.Arith.{Arith}
use Rattle.cil_arith.specs.declared.num.Arith.TheVariants.{Overflow}
use Rattle.cil_arith.specs.Kinds.{kind_of, width, whole, wrapped, Reading, read, least, greatest, holds}
use Rattle.cil_arith.specs.Arithmetic.{rule, result_kind, answer, checked}
use Rattle.cil_arith.specs.Conversions.{IntegerType, source, converted, checked as kept}
use Rattle.cil_arith.specs.Laws.{IsOutside, CheckedFormsOverflowOutside, CheckedConversionsOverflowOutside}
use Rattle.cil_arith.proofs.Inverted.{answer_in, put_together, at_kind}

-- ---- the test of a range

not_at_most : (x y : ℤ) → int_le x y ≡ false → y <ℤ x
not_at_most x y e = omega (arith, ints)

above : (x y : ℤ) → y <ℤ x → int_le x y ≡ false
above x y h = grind (arith, ints)

outside : (reading : Reading) (w : Width) (z : ℤ) → (holds reading w z ≡ false) ↔ IsOutside reading w z
outside reading w z =
    let low = int_le (least reading w) z in
    let high = int_le z (greatest reading w) in (
      λ e. ⊎_elim (λ h. inl (not_at_most (least reading w) z h)) (λ h. inr (not_at_most z (greatest reading w) h)) (and_cases low high e),
      λ h. ⊎_elim (λ below. and_left low high (above (least reading w) z below)) (λ over. and_right low high (above z (greatest reading w) over)) h,
    )

-- ---- arithmetic

not_overflow : (x : ℤ) (r : Result ℤ Arith) → r ≡ Ok x → r ≡ Err Overflow → ⊥
not_overflow x r d e = cc

overflows : (reading : Reading) (w : Width) (z : ℤ) → (checked reading w z ≡ Err Overflow) ↔ (holds reading w z ≡ false)
overflows reading w z = (by (holds reading w z), λ e. ap (λ b. if b then Ok (int_wrap w z) else Err Overflow) e)
  where
    by : (b : Bool) → (if b then Ok (int_wrap w z) else Err Overflow) ≡ Err Overflow → b ≡ false
    by true e = absurd (not_overflow (int_wrap w z) (Ok (int_wrap w z)) refl e)
    by false e = refl

pub checked_forms_overflow_outside : CheckedFormsOverflowOutside
checked_forms_overflow_outside op reading f a b kind e m =
    let w = width kind in
    let z = f (read reading w (whole a)) (read reading w (whole b)) in
    let meets : result_kind (rule op) (kind_of a) (kind_of b) ≡ Some kind = ap (λ r. result_kind r (kind_of a) (kind_of b)) e ∙ m in
    let is : answer_in op a b kind ≡ checked reading w z = ap (λ r. answer r w (whole a) (whole b)) e in (
      λ h. (outside reading w z).0 ((overflows reading w z).0 (sym is ∙ at_kind op a b kind meets h)),
      λ h. put_together op a b kind (Err Overflow) meets (is ∙ (overflows reading w z).1 ((outside reading w z).1 h)),
    )

-- ---- conversions

not_refused : (x : Num) (r : Result Num Arith) → r ≡ Ok x → r ≡ Err Overflow → ⊥
not_refused x r d e = cc

refuses : (t : IntegerType) (z : ℤ) → (kept t z ≡ Err Overflow) ↔ (holds t.reading t.size z ≡ false)
refuses t z = (by (holds t.reading t.size z), λ e. ap (λ b. if b then Ok (wrapped t.kind z) else Err Overflow) e)
  where
    by : (b : Bool) → (if b then Ok (wrapped t.kind z) else Err Overflow) ≡ Err Overflow → b ≡ false
    by true e = absurd (not_refused (wrapped t.kind z) (Ok (wrapped t.kind z)) refl e)
    by false e = refl

pub checked_conversions_overflow_outside : CheckedConversionsOverflowOutside
checked_conversions_overflow_outside op reading t a e =
    let z = source reading a in
    let is = ap (λ x. converted x a) e in
    (λ h. (outside t.reading t.size z).0 ((refuses t z).0 (sym is ∙ h)), λ h. is ∙ (refuses t z).1 ((outside t.reading t.size z).1 h))
