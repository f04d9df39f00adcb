-- Quotients and remainders.
use Rattle.std.proofs.Common.{◌≡◌, ◌≢◌, zero, suc, ◌<◌, Bool, true, false, ◌⊎◌, inl, inr, ⊎_elim, ℤ, pos, negsuc, ◌+ℤ◌, ◌*ℤ◌, ◌≤ℤ◌, refl, ap, ◌∙◌, arith}
use Rattle.std.proofs.lemmas.Bool.Decides.{Decides-int_eq}
use Rattle.std.proofs.lemmas.Int.{ints, quot-rem, rem_below}
use Rattle.std.proofs.Math.Nat.{mod-le}
use Rattle.std.specs.Ordering.{int_eq}
use Rattle.std.specs.Prelude.{int_div, int_rem, unsigned_abs, if◌then◌else◌}
use Rattle.rv_machine.specs.Words.{quotient, remainder}
use Rattle.rv_machine.specs.Laws.{QuotientsDivide}

false_from_not : (b : Bool) → (b ≡ true → ⊥) → b ≡ false
false_from_not true h = absurd (h refl)
false_from_not false h = refl

not_zero : (d : ℤ) → d ≢ pos 0 → int_eq d (pos 0) ≡ false
not_zero d h = false_from_not (int_eq d (pos 0)) (λ e. h ((Decides-int_eq d (pos 0)).0 e))

-- by another divisor than 0
pub quotient_is : (z d : ℤ) → d ≢ pos 0 → quotient z d ≡ int_div z d
quotient_is z d h = ap (λ b. if b then negsuc 0 else int_div z d) (not_zero d h)

pub remainder_is : (z d : ℤ) → d ≢ pos 0 → remainder z d ≡ int_rem z d
remainder_is z d h = ap (λ b. if b then z else int_rem z d) (not_zero d h)

is_zero : (d : ℤ) → (d ≡ pos 0) ⊎ (d ≢ pos 0)
is_zero (pos zero) = inl refl
is_zero (pos (suc n)) = inr (λ e. cc)
is_zero (negsuc n) = inr (λ e. cc)

some_abs : (d : ℤ) → d ≢ pos 0 → 0 < unsigned_abs d
some_abs (pos zero) h = absurd (h refl)
some_abs (pos (suc n)) h = omega arith
some_abs (negsuc n) h = omega arith

rest_below : (z d : ℤ) → d ≢ pos 0 → unsigned_abs (remainder z d) < unsigned_abs d
rest_below z d h = omega (arith, ap unsigned_abs (remainder_is z d h), rem_below z d (some_abs d h))

dividend_zero : (z d : ℤ) → d ≡ pos 0 → quotient z d *ℤ d +ℤ remainder z d ≡ z
dividend_zero z d e = ap (λ x. quotient z x *ℤ x +ℤ remainder z x) e ∙ omega (arith, ints)

remainder_zero : (z d : ℤ) → d ≡ pos 0 → remainder z d ≡ z
remainder_zero z d e = ap (remainder z) e

rem_not_negative : (z d : ℤ) → pos 0 ≤ℤ z → pos 0 ≤ℤ int_rem z d
rem_not_negative (pos n) d h = omega (arith, ints)
rem_not_negative (negsuc n) d h = absurd h.le

rem_not_positive : (a b : ℤ) → a ≤ℤ pos 0 → int_rem a b ≤ℤ pos 0
rem_not_positive (pos a) b h = omega (arith, ints, mod-le a (unsigned_abs b))
rem_not_positive (negsuc a) b h = omega (arith, ints)

pub quotients_divide : QuotientsDivide
quotients_divide z d = record {
  dividend = ⊎_elim (dividend_zero z d)
      (λ h. ap (λ q. q *ℤ d +ℤ remainder z d) (quotient_is z d h) ∙ ap (λ r. int_div z d *ℤ d +ℤ r) (remainder_is z d h) ∙ quot-rem z d)
      (is_zero d);
  rest = rest_below z d;
  not_negative = λ h. ⊎_elim (λ e. rw (remainder_zero z d e) h) (λ other. rw (remainder_is z d other) (rem_not_negative z d h)) (is_zero d);
  not_positive = λ h. ⊎_elim (λ e. rw (remainder_zero z d e) h) (λ other. rw (remainder_is z d other) (rem_not_positive z d h)) (is_zero d);
}
