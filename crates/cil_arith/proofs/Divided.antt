-- The laws of div, div.un, rem and rem.un.
use Rattle.std.proofs.Common.{◌≡◌, ◌⊎◌, ⊎_elim, inl, inr, ℕ, zero, suc, ◌-◌, ◌*◌, ◌/◌, ◌%◌, ◌^◌, ◌<◌, ◌≤◌, ℤ, pos, negsuc, ◌+ℤ◌, ◌-ℤ◌, ◌*ℤ◌, ◌≤ℤ◌, neg_ℤ, FitsSigned, int_div, int_rem, unsigned_abs, Bool, true, false, if◌then◌else◌, ◌==◌, Some, Result, Ok, Err, refl, sym, ap, ◌∙◌, subst, arith}
use Rattle.std.proofs.Math.Nat.{div-le_self, mod-le, mul-le-mul_left}
use Rattle.std.proofs.lemmas.Nat.{pow_pos, div-add-mod'}
use Rattle.std.proofs.lemmas.Int.{ints, quot-rem, rem_below, quot_fits}
use Rattle.std.proofs.lemmas.Bool.{eqb-false, eqb-true, cases_eq, cases_lt, false≢true}
use lib.Signed.{mag, mag_rem}
use Rattle.std.specs.Int.{Width, w32, w64, cast_unsigned, int_wrap}
use mir.Val.{hbits}
use Rattle.cil_arith.specs.declared.num.Num.{Num}
use Rattle.cil_arith.specs.declared.num.Arith.{Arith}
use Rattle.cil_arith.specs.declared.num.Arith.TheVariants.{DivideByZero, Overflow}
use Rattle.cil_arith.specs.declared.operations.BinOp.{BinOp}
use Rattle.cil_arith.specs.declared.operations.BinOp.TheVariants.{Add, Sub, Mul, Div, DivUn, Rem, RemUn, AddOvf, AddOvfUn, SubOvf, SubOvfUn, MulOvf, MulOvfUn, And, Or, Xor, Shl, Shr, ShrUn}
use Rattle.cil_arith.specs.Kinds.{Kind, Int32, Int64, NativeInt, kind_of, width, whole, number, Reading, Signed, Unsigned, read, least, holds, common_kind}
use Rattle.cil_arith.specs.Arithmetic.{rule, result_kind, checked, divided, binary_of}
use Rattle.cil_arith.specs.Laws.{IsNumber, AreQuotientAndRemainder, quotient_op, remainder_op, QuotientsAndRemaindersBelongTogether, IsDivision, DivisorsOfZeroDivideByZero, LeastByMinusOneOverflows}
use Rattle.cil_arith.proofs.Bits.{holds_signed, holds_unsigned, of_z_below, read_wrapped, nonzero}
use Rattle.cil_arith.proofs.Inverted.{answer_in, taken_apart, put_together, failure, at_kind, first_fits, second_fits, some_same}

-- ---- what a division answered

ok_same : (x y : ℤ) (r : Result ℤ Arith) → r ≡ Ok x → r ≡ Ok y → x ≡ y
ok_same x y r d e = cc

not_ok : (error : Arith) (x : ℤ) (r : Result ℤ Arith) → r ≡ Err error → r ≡ Ok x → ⊥
not_ok error x r d e = cc

not_both : (r : Result ℤ Arith) → r ≡ Err DivideByZero → r ≡ Err Overflow → ⊥
not_both r d e = cc

pub record Divides (reading : Reading) (w : Width) (f : ℤ → ℤ → ℤ) (a b v : ℤ) : Type 0 where
  pub nonzero : unsigned_abs b ≡ 0 → ⊥
  pub held : holds reading w (int_div a b) ≡ true
  pub value : int_wrap w (f a b) ≡ v

divides : (reading : Reading) (w : Width) (f : ℤ → ℤ → ℤ) (a b v : ℤ) → divided reading w f a b ≡ Ok v → Divides reading w f a b v
divides reading w f a b v e = by (unsigned_abs b == 0) refl e
  where
    rest : (t : Bool) → holds reading w (int_div a b) ≡ t → (unsigned_abs b ≡ 0 → ⊥) → (if t then Ok (int_wrap w (f a b)) else Err Overflow) ≡ Ok v → Divides reading w f a b v
    rest true h n e = record { nonzero = n; held = h; value = ok_same (int_wrap w (f a b)) v (Ok (int_wrap w (f a b))) refl e }
    rest false h n e = absurd (not_ok Overflow v (Err Overflow) refl e)

    by : (t : Bool) → (unsigned_abs b == 0) ≡ t → (if t then Err DivideByZero else if holds reading w (int_div a b) then Ok (int_wrap w (f a b)) else Err Overflow) ≡ Ok v → Divides reading w f a b v
    by true h e = absurd (not_ok DivideByZero v (Err DivideByZero) refl e)
    by false h e = rest (holds reading w (int_div a b)) refl (eqb-false (unsigned_abs b) 0 h) e

zero_divisor : (reading : Reading) (w : Width) (f : ℤ → ℤ → ℤ) (a b : ℤ) → divided reading w f a b ≡ Err DivideByZero → unsigned_abs b ≡ 0
zero_divisor reading w f a b e = by (unsigned_abs b == 0) refl e
  where
    rest : (t : Bool) → (if t then Ok (int_wrap w (f a b)) else Err Overflow) ≡ Err DivideByZero → ⊥
    rest true e = not_ok DivideByZero (int_wrap w (f a b)) (Err DivideByZero) refl (sym e)
    rest false e = not_both (Err Overflow) e refl

    by : (t : Bool) → (unsigned_abs b == 0) ≡ t → (if t then Err DivideByZero else if holds reading w (int_div a b) then Ok (int_wrap w (f a b)) else Err Overflow) ≡ Err DivideByZero → unsigned_abs b ≡ 0
    by true h e = eqb-true (unsigned_abs b) 0 h
    by false h e = absurd (rest (holds reading w (int_div a b)) e)

too_great : (reading : Reading) (w : Width) (f : ℤ → ℤ → ℤ) (a b : ℤ) → divided reading w f a b ≡ Err Overflow → (unsigned_abs b ≡ 0 → ⊥) × (holds reading w (int_div a b) ≡ false)
too_great reading w f a b e = by (unsigned_abs b == 0) refl e
  where
    rest : (t : Bool) → holds reading w (int_div a b) ≡ t → (if t then Ok (int_wrap w (f a b)) else Err Overflow) ≡ Err Overflow → holds reading w (int_div a b) ≡ false
    rest true h e = absurd (not_ok Overflow (int_wrap w (f a b)) (Err Overflow) refl (sym e))
    rest false h e = h

    by : (t : Bool) → (unsigned_abs b == 0) ≡ t → (if t then Err DivideByZero else if holds reading w (int_div a b) then Ok (int_wrap w (f a b)) else Err Overflow) ≡ Err Overflow → (unsigned_abs b ≡ 0 → ⊥) × (holds reading w (int_div a b) ≡ false)
    by true h e = absurd (not_both (Err DivideByZero) refl e)
    by false h e = (eqb-false (unsigned_abs b) 0 h, rest (holds reading w (int_div a b)) refl e)

-- ---- quotient and remainder

read_held : (reading : Reading) (w : Width) (z : ℤ) → FitsSigned w z → holds reading w (read reading w z) ≡ true
read_held Signed w z f = (holds_signed w z).1 f
read_held Unsigned w z f = (holds_unsigned w (cast_unsigned w z)).1 (of_z_below w z f)

rem_held : (reading : Reading) (w : Width) (a b : ℤ) → holds reading w a ≡ true → holds reading w (int_rem a b) ≡ true
rem_held Signed w a b h = let f = (holds_signed w a).0 h in (holds_signed w (int_rem a b)).1 (record { sfits = omega (arith, mag_rem a b, f.sfits) })
rem_held Unsigned w (pos a) b h = (holds_unsigned w (a % unsigned_abs b)).1 (omega (arith, mod-le a (unsigned_abs b), (holds_unsigned w a).0 h))
rem_held Unsigned w (negsuc a) b h = absurd (false≢true h)

rem_not_negative : (a b : ℤ) → pos 0 ≤ℤ a → pos 0 ≤ℤ int_rem a b
rem_not_negative (pos a) b h = omega (arith, ints)
rem_not_negative (negsuc a) b h = absurd h.le

rem_not_positive : (a b : ℤ) → a ≤ℤ pos 0 → int_rem a b ≤ℤ pos 0
rem_not_positive (pos a) b h = omega (arith, ints, mod-le a (unsigned_abs b))
rem_not_positive (negsuc a) b h = omega (arith, ints)

together : (reading : Reading) (w : Width) (a b q r : ℤ) → holds reading w a ≡ true → divided reading w int_div a b ≡ Ok q → divided reading w int_rem a b ≡ Ok r → AreQuotientAndRemainder a b (read reading w q) (read reading w r)
together reading w a b q r h d e =
    let quotient = divides reading w int_div a b q d in
    let remainder = divides reading w int_rem a b r e in
    let q_is : read reading w q ≡ int_div a b = ap (read reading w) (sym quotient.value) ∙ read_wrapped reading w (int_div a b) quotient.held in
    let r_is : read reading w r ≡ int_rem a b = ap (read reading w) (sym remainder.value) ∙ read_wrapped reading w (int_rem a b) (rem_held reading w a b h) in
    let some : 0 < unsigned_abs b = omega (arith, quotient.nonzero) in
    let at : AreQuotientAndRemainder a b (int_div a b) (int_rem a b) = record {
      dividend = sym (quot-rem a b);
      less = rem_below a b some;
      not_negative = rem_not_negative a b;
      not_positive = rem_not_positive a b;
    } in
    subst (λ x. AreQuotientAndRemainder a b x (read reading w r)) (sym q_is) (subst (AreQuotientAndRemainder a b (int_div a b)) (sym r_is) at)

-- the values of two numbers and of what they give, in the kind of the quotient
abbrev Values : Reading → Num → Num → Num → Num → Type 0
Values reading a b q r =
    let value : Num → ℤ = λ n. read reading (width (kind_of q)) (whole n) in AreQuotientAndRemainder (value a) (value b) (value q) (value r)

in_kind : (kind : Kind) (reading : Reading) (a b : Num) (q r : ℤ) → AreQuotientAndRemainder (read reading (width kind) (whole a)) (read reading (width kind) (whole b)) (read reading (width kind) q) (read reading (width kind) r) → Values reading a b (number kind q) (number kind r)
in_kind Int32 reading a b q r h = h
in_kind Int64 reading a b q r h = h
in_kind NativeInt reading a b q r h = h

by_kind : (reading : Reading) (a b q r : Num) (kind : Kind) (x y : ℤ) → IsNumber a → IsNumber b → common_kind (kind_of a) (kind_of b) ≡ Some kind
    → divided reading (width kind) int_div (read reading (width kind) (whole a)) (read reading (width kind) (whole b)) ≡ Ok x
    → divided reading (width kind) int_rem (read reading (width kind) (whole a)) (read reading (width kind) (whole b)) ≡ Ok y
    → number kind x ≡ q → number kind y ≡ r → Values reading a b q r
by_kind reading a b q r kind x y f g meets d e q_is r_is =
    let w = width kind in
    let h = together reading w (read reading w (whole a)) (read reading w (whole b)) x y (read_held reading w (whole a) (first_fits a b kind f meets)) d e in
    subst (λ n. Values reading a b n r) q_is (subst (Values reading a b (number kind x)) r_is (in_kind kind reading a b x y h))

same_kind : (op : BinOp) (a b : Num) (kind k : Kind) (v : ℤ) → k ≡ kind → answer_in op a b k ≡ Ok v → answer_in op a b kind ≡ Ok v
same_kind op a b kind k v e h = subst (λ x. answer_in op a b x ≡ Ok v) e h

pub quotients_and_remainders_belong_together : QuotientsAndRemaindersBelongTogether
quotients_and_remainders_belong_together Signed a b q r f g d e =
    let x = taken_apart Div a b q d in
    let y = taken_apart Rem a b r e in
    let one : y.kind ≡ x.kind = some_same y.kind x.kind (sym y.in_kind ∙ x.in_kind) in
    by_kind Signed a b q r x.kind x.value y.value f g x.in_kind x.answer (same_kind Rem a b x.kind y.kind y.value one y.answer) x.is (ap (λ k. number k y.value) (sym one) ∙ y.is)
quotients_and_remainders_belong_together Unsigned a b q r f g d e =
    let x = taken_apart DivUn a b q d in
    let y = taken_apart RemUn a b r e in
    let one : y.kind ≡ x.kind = some_same y.kind x.kind (sym y.in_kind ∙ x.in_kind) in
    by_kind Unsigned a b q r x.kind x.value y.value f g x.in_kind x.answer (same_kind RemUn a b x.kind y.kind y.value one y.answer) x.is (ap (λ k. number k y.value) (sym one) ∙ y.is)

-- ---- division by zero

zero_read : (reading : Reading) (w : Width) (z : ℤ) → FitsSigned w z → unsigned_abs (read reading w z) ≡ 0 → z ≡ pos 0
zero_read Signed w z f e = omega (arith, ints)
zero_read Unsigned w z f e = ⊎_elim (λ h. omega (arith, ints)) (λ n. absurd (omega (arith, nonzero w z f n))) (cases_eq (unsigned_abs z) 0)

ok_not_zero : (x : ℤ) → Ok x ≡ Err DivideByZero → ⊥
ok_not_zero x e = not_ok DivideByZero x (Err DivideByZero) refl (sym e)

checked_not_zero : (reading : Reading) (w : Width) (z : ℤ) → checked reading w z ≡ Err DivideByZero → ⊥
checked_not_zero reading w z e = by (holds reading w z) e
  where
    by : (t : Bool) → (if t then Ok (int_wrap w z) else Err Overflow) ≡ Err DivideByZero → ⊥
    by true e = ok_not_zero (int_wrap w z) e
    by false e = not_both (Err Overflow) e refl

cause : (op : BinOp) (a b : Num) (kind : Kind) → IsNumber b → result_kind (rule op) (kind_of a) (kind_of b) ≡ Some kind → answer_in op a b kind ≡ Err DivideByZero → IsDivision op × (whole b ≡ pos 0)
cause Add a b kind g m e = absurd (ok_not_zero _ e)
cause Sub a b kind g m e = absurd (ok_not_zero _ e)
cause Mul a b kind g m e = absurd (ok_not_zero _ e)
cause Div a b kind g m e = ((Signed, inl refl), zero_read Signed (width kind) (whole b) (second_fits a b kind g m) (zero_divisor Signed (width kind) int_div (read Signed (width kind) (whole a)) (read Signed (width kind) (whole b)) e))
cause DivUn a b kind g m e = ((Unsigned, inl refl), zero_read Unsigned (width kind) (whole b) (second_fits a b kind g m) (zero_divisor Unsigned (width kind) int_div (read Unsigned (width kind) (whole a)) (read Unsigned (width kind) (whole b)) e))
cause Rem a b kind g m e = ((Signed, inr refl), zero_read Signed (width kind) (whole b) (second_fits a b kind g m) (zero_divisor Signed (width kind) int_rem (read Signed (width kind) (whole a)) (read Signed (width kind) (whole b)) e))
cause RemUn a b kind g m e = ((Unsigned, inr refl), zero_read Unsigned (width kind) (whole b) (second_fits a b kind g m) (zero_divisor Unsigned (width kind) int_rem (read Unsigned (width kind) (whole a)) (read Unsigned (width kind) (whole b)) e))
cause AddOvf a b kind g m e = absurd (checked_not_zero Signed (width kind) (read Signed (width kind) (whole a) +ℤ read Signed (width kind) (whole b)) e)
cause AddOvfUn a b kind g m e = absurd (checked_not_zero Unsigned (width kind) (read Unsigned (width kind) (whole a) +ℤ read Unsigned (width kind) (whole b)) e)
cause SubOvf a b kind g m e = absurd (checked_not_zero Signed (width kind) (read Signed (width kind) (whole a) -ℤ read Signed (width kind) (whole b)) e)
cause SubOvfUn a b kind g m e = absurd (checked_not_zero Unsigned (width kind) (read Unsigned (width kind) (whole a) -ℤ read Unsigned (width kind) (whole b)) e)
cause MulOvf a b kind g m e = absurd (checked_not_zero Signed (width kind) (read Signed (width kind) (whole a) *ℤ read Signed (width kind) (whole b)) e)
cause MulOvfUn a b kind g m e = absurd (checked_not_zero Unsigned (width kind) (read Unsigned (width kind) (whole a) *ℤ read Unsigned (width kind) (whole b)) e)
cause And a b kind g m e = absurd (ok_not_zero _ e)
cause Or a b kind g m e = absurd (ok_not_zero _ e)
cause Xor a b kind g m e = absurd (ok_not_zero _ e)
cause Shl a b kind g m e = absurd (ok_not_zero _ e)
cause Shr a b kind g m e = absurd (ok_not_zero _ e)
cause ShrUn a b kind g m e = absurd (ok_not_zero _ e)

by_zero : (reading : Reading) (w : Width) (f : ℤ → ℤ → ℤ) (a b : ℤ) → b ≡ pos 0 → divided reading w f a (read reading w b) ≡ Err DivideByZero
by_zero Signed w f a b e = ap (λ z. divided Signed w f a (read Signed w z)) e
by_zero Unsigned w f a b e = ap (λ z. divided Unsigned w f a (read Unsigned w z)) e

gives_zero : (op : BinOp) (a b : Num) (kind : Kind) → common_kind (kind_of a) (kind_of b) ≡ Some kind → whole b ≡ pos 0 → (reading : Reading) → (op ≡ quotient_op reading) ⊎ (op ≡ remainder_op reading) → binary_of op a b ≡ Some (Err DivideByZero)
gives_zero op a b kind e h Signed c = ⊎_elim
    (λ is. ap (λ o. binary_of o a b) is ∙ put_together Div a b kind (Err DivideByZero) e (by_zero Signed (width kind) int_div (whole a) (whole b) h))
    (λ is. ap (λ o. binary_of o a b) is ∙ put_together Rem a b kind (Err DivideByZero) e (by_zero Signed (width kind) int_rem (whole a) (whole b) h))
    c
gives_zero op a b kind e h Unsigned c = ⊎_elim
    (λ is. ap (λ o. binary_of o a b) is ∙ put_together DivUn a b kind (Err DivideByZero) e (by_zero Unsigned (width kind) int_div (read Unsigned (width kind) (whole a)) (whole b) h))
    (λ is. ap (λ o. binary_of o a b) is ∙ put_together RemUn a b kind (Err DivideByZero) e (by_zero Unsigned (width kind) int_rem (read Unsigned (width kind) (whole a)) (whole b) h))
    c

pub divisors_of_zero_divide_by_zero : DivisorsOfZeroDivideByZero
divisors_of_zero_divide_by_zero op a b kind g meets = (
  λ e. let h = failure op a b DivideByZero e in cause op a b h.kind g h.in_kind h.answer,
  λ h. gives_zero op a b kind meets h.1 h.0.0 h.0.1,
)

-- ---- the least number by -1

mag-neg : (n : ℕ) → mag (neg_ℤ (pos n)) ≡ n - 1
mag-neg zero = refl
mag-neg (suc n) = omega arith

quotient_held : (w : Width) (a b : ℕ) → 1 ≤ b → suc a ≤ 2 ^ hbits w → suc a / suc b < 2 ^ hbits w
quotient_held w a b h f =
    let q = suc a / suc b in
    let more : q * 2 ≤ q * suc b = mul-le-mul_left q (omega arith) in
    let whole = div-add-mod' (suc a) (suc b) in
    omega (arith, pow_pos (hbits w))

least_is : (kind : Kind) (a : ℕ) → suc a ≡ 2 ^ hbits (width kind) → negsuc a ≡ least Signed (width kind)
least_is Int32 a e = omega (arith, ints)
least_is Int64 a e = omega (arith, ints)
least_is NativeInt a e = omega (arith, ints)

only_least : (kind : Kind) (a b : ℤ) → FitsSigned (width kind) a → ¬ (unsigned_abs b ≡ 0) → ¬ (FitsSigned (width kind) (int_div a b)) → (a ≡ least Signed (width kind)) × (b ≡ negsuc 0)
only_least kind a (pos zero) f n out = absurd (n refl)
only_least kind a (pos (suc b)) f n out = absurd (out (quot_fits (width kind) a (pos (suc b)) f (omega (arith, ints))))
only_least kind (pos a) (negsuc b) f n out = absurd (out (record { sfits = omega (arith, mag-neg (a / suc b), div-le_self a (suc b), f.sfits) }))
only_least kind (negsuc a) (negsuc zero) f n out = (least_is kind a (⊎_elim (λ h. absurd (out (record { sfits = omega arith }))) (λ h. omega (arith, f.sfits)) (cases_lt (suc a / 1) (2 ^ hbits (width kind)))), refl)
only_least kind (negsuc a) (negsuc (suc b)) f n out = absurd (out (record { sfits = quotient_held (width kind) a (suc b) (omega arith) (omega (arith, f.sfits)) }))

least_overflows : (kind : Kind) (f : ℤ → ℤ → ℤ) (a b : ℤ) → a ≡ least Signed (width kind) → b ≡ negsuc 0 → divided Signed (width kind) f a b ≡ Err Overflow
least_overflows Int32 f a b d e = λ i. divided Signed w32 f (d i) (e i)
least_overflows Int64 f a b d e = λ i. divided Signed w64 f (d i) (e i)
least_overflows NativeInt f a b d e = λ i. divided Signed w64 f (d i) (e i)

least_only : (kind : Kind) (f : ℤ → ℤ → ℤ) (a b : ℤ) → FitsSigned (width kind) a → divided Signed (width kind) f a b ≡ Err Overflow → (a ≡ least Signed (width kind)) × (b ≡ negsuc 0)
least_only kind f a b in_a e =
    let h = too_great Signed (width kind) f a b e in
    only_least kind a b in_a h.0 (λ fit. false≢true (sym h.1 ∙ (holds_signed (width kind) (int_div a b)).1 fit))

never_unsigned : (kind : Kind) (f : ℤ → ℤ → ℤ) (a b : ℤ) → FitsSigned (width kind) a → divided Unsigned (width kind) f (read Unsigned (width kind) a) (read Unsigned (width kind) b) ≡ Err Overflow → ⊥
never_unsigned kind f a b in_a e =
    let w = width kind in
    let m = cast_unsigned w a in
    let n = cast_unsigned w b in
    let h = too_great Unsigned w f (pos m) (pos n) e in
    false≢true (sym h.1 ∙ (holds_unsigned w (m / n)).1 (omega (arith, div-le_self m n, of_z_below w a in_a)))

pub least_by_minus_one_overflows : LeastByMinusOneOverflows
least_by_minus_one_overflows a b kind f g m =
    let in_a = first_fits a b kind f m in (
      (λ e. least_only kind int_div (whole a) (whole b) in_a (at_kind Div a b kind m e), λ h. put_together Div a b kind (Err Overflow) m (least_overflows kind int_div (whole a) (whole b) h.0 h.1)),
      (λ e. least_only kind int_rem (whole a) (whole b) in_a (at_kind Rem a b kind m e), λ h. put_together Rem a b kind (Err Overflow) m (least_overflows kind int_rem (whole a) (whole b) h.0 h.1)),
      (λ e. never_unsigned kind int_div (whole a) (whole b) in_a (at_kind DivUn a b kind m e)),
      (λ e. never_unsigned kind int_rem (whole a) (whole b) in_a (at_kind RemUn a b kind m e)),
    )
