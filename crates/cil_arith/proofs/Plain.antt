-- Checked sums, differences and products are the plain ones.
use Rattle.std.proofs.Common.{◌≡◌, ℤ, ◌+ℤ◌, ◌-ℤ◌, ◌*ℤ◌, neg_ℤ, FitsSigned, Bool, true, false, if◌then◌else◌, Some, Result, Ok, Err, refl, sym, ap, ◌∙◌}
use Rattle.std.proofs.lemmas.Int.{int_wrap-add_left, int_wrap-add_right, int_wrap-sub_right, int_wrap-mul_left, int_wrap-mul_right}
use Rattle.std.specs.Int.{Width, int_wrap}
use Rattle.cil_arith.specs.declared.num.Arith.{Arith}
use Rattle.cil_arith.specs.declared.num.Arith.TheVariants.{Overflow}
use Rattle.cil_arith.specs.declared.operations.BinOp.TheVariants.{Add, Sub, Mul, Div, DivUn, Rem, RemUn, AddOvf, AddOvfUn, SubOvf, SubOvfUn, MulOvf, MulOvfUn, And, Or, Xor, Shl, Shr, ShrUn}
use Rattle.cil_arith.specs.Kinds.{width, whole, Reading, Signed, Unsigned, read, holds}
use Rattle.cil_arith.specs.Arithmetic.{checked}
use Rattle.cil_arith.specs.Laws.{CheckedFormsGivePlainResults}
use Rattle.cil_arith.proofs.Bits.{same_low_bits}
use Rattle.cil_arith.proofs.Inverted.{taken_apart, put_together, first_fits, second_fits}

-- ---- the value of a checked number

ok_same : (x y : ℤ) (r : Result ℤ Arith) → r ≡ Ok x → r ≡ Ok y → x ≡ y
ok_same x y r d e = cc

not_ok : (x : ℤ) (r : Result ℤ Arith) → r ≡ Err Overflow → r ≡ Ok x → ⊥
not_ok x r d e = cc

pub checked_value : (reading : Reading) (w : Width) (z v : ℤ) → checked reading w z ≡ Ok v → int_wrap w z ≡ v
checked_value reading w z v e = by (holds reading w z) e
  where
    by : (t : Bool) → (if t then Ok (int_wrap w z) else Err Overflow) ≡ Ok v → int_wrap w z ≡ v
    by true e = ok_same (int_wrap w z) v (Ok (int_wrap w z)) refl e
    by false e = absurd (not_ok v (Err Overflow) refl e)

-- ---- the low bits of a result are those of the result of the readings

low_read : (w : Width) (z : ℤ) → FitsSigned w z → int_wrap w (read Unsigned w z) ≡ int_wrap w z
low_read w z f = same_low_bits w z f

sum_read : (w : Width) (a b : ℤ) → FitsSigned w a → FitsSigned w b → int_wrap w (read Unsigned w a +ℤ read Unsigned w b) ≡ int_wrap w (a +ℤ b)
sum_read w a b f g =
    let x = read Unsigned w a in
    let y = read Unsigned w b in
    sym (int_wrap-add_right w x y) ∙ ap (λ z. int_wrap w (x +ℤ z)) (low_read w b g) ∙ int_wrap-add_right w x b
    ∙ sym (int_wrap-add_left w x b) ∙ ap (λ z. int_wrap w (z +ℤ b)) (low_read w a f) ∙ int_wrap-add_left w a b

difference_read : (w : Width) (a b : ℤ) → FitsSigned w a → FitsSigned w b → int_wrap w (read Unsigned w a -ℤ read Unsigned w b) ≡ int_wrap w (a -ℤ b)
difference_read w a b f g =
    let x = read Unsigned w a in
    let y = read Unsigned w b in
    sym (int_wrap-sub_right w x y) ∙ ap (λ z. int_wrap w (x -ℤ z)) (low_read w b g) ∙ int_wrap-sub_right w x b
    ∙ sym (int_wrap-add_left w x (neg_ℤ b)) ∙ ap (λ z. int_wrap w (z -ℤ b)) (low_read w a f) ∙ int_wrap-add_left w a (neg_ℤ b)

product_read : (w : Width) (a b : ℤ) → FitsSigned w a → FitsSigned w b → int_wrap w (read Unsigned w a *ℤ read Unsigned w b) ≡ int_wrap w (a *ℤ b)
product_read w a b f g =
    let x = read Unsigned w a in
    let y = read Unsigned w b in
    sym (int_wrap-mul_right w x y) ∙ ap (λ z. int_wrap w (x *ℤ z)) (low_read w b g) ∙ int_wrap-mul_right w x b
    ∙ sym (int_wrap-mul_left w x b) ∙ ap (λ z. int_wrap w (z *ℤ b)) (low_read w a f) ∙ int_wrap-mul_left w a b

-- ---- the law

pub checked_forms_give_plain_results : CheckedFormsGivePlainResults
checked_forms_give_plain_results AddOvf a b c f g e =
    let h = taken_apart AddOvf a b c e in
    put_together Add a b h.kind (Ok h.value) h.in_kind (ap Ok (checked_value Signed (width h.kind) (whole a +ℤ whole b) h.value h.answer)) ∙ ap (λ n. Some (Ok n)) h.is
checked_forms_give_plain_results SubOvf a b c f g e =
    let h = taken_apart SubOvf a b c e in
    put_together Sub a b h.kind (Ok h.value) h.in_kind (ap Ok (checked_value Signed (width h.kind) (whole a -ℤ whole b) h.value h.answer)) ∙ ap (λ n. Some (Ok n)) h.is
checked_forms_give_plain_results MulOvf a b c f g e =
    let h = taken_apart MulOvf a b c e in
    put_together Mul a b h.kind (Ok h.value) h.in_kind (ap Ok (checked_value Signed (width h.kind) (whole a *ℤ whole b) h.value h.answer)) ∙ ap (λ n. Some (Ok n)) h.is
checked_forms_give_plain_results AddOvfUn a b c f g e =
    let h = taken_apart AddOvfUn a b c e in
    let w = width h.kind in
    let value = sym (sum_read w (whole a) (whole b) (first_fits a b h.kind f h.in_kind) (second_fits a b h.kind g h.in_kind)) ∙ checked_value Unsigned w (read Unsigned w (whole a) +ℤ read Unsigned w (whole b)) h.value h.answer in
    put_together Add a b h.kind (Ok h.value) h.in_kind (ap Ok value) ∙ ap (λ n. Some (Ok n)) h.is
checked_forms_give_plain_results SubOvfUn a b c f g e =
    let h = taken_apart SubOvfUn a b c e in
    let w = width h.kind in
    let value = sym (difference_read w (whole a) (whole b) (first_fits a b h.kind f h.in_kind) (second_fits a b h.kind g h.in_kind)) ∙ checked_value Unsigned w (read Unsigned w (whole a) -ℤ read Unsigned w (whole b)) h.value h.answer in
    put_together Sub a b h.kind (Ok h.value) h.in_kind (ap Ok value) ∙ ap (λ n. Some (Ok n)) h.is
checked_forms_give_plain_results MulOvfUn a b c f g e =
    let h = taken_apart MulOvfUn a b c e in
    let w = width h.kind in
    let value = sym (product_read w (whole a) (whole b) (first_fits a b h.kind f h.in_kind) (second_fits a b h.kind g h.in_kind)) ∙ checked_value Unsigned w (read Unsigned w (whole a) *ℤ read Unsigned w (whole b)) h.value h.answer in
    put_together Mul a b h.kind (Ok h.value) h.in_kind (ap Ok value) ∙ ap (λ n. Some (Ok n)) h.is
checked_forms_give_plain_results Add a b c f g e = e
checked_forms_give_plain_results Sub a b c f g e = e
checked_forms_give_plain_results Mul a b c f g e = e
checked_forms_give_plain_results Div a b c f g e = e
checked_forms_give_plain_results DivUn a b c f g e = e
checked_forms_give_plain_results Rem a b c f g e = e
checked_forms_give_plain_results RemUn a b c f g e = e
checked_forms_give_plain_results And a b c f g e = e
checked_forms_give_plain_results Or a b c f g e = e
checked_forms_give_plain_results Xor a b c f g e = e
checked_forms_give_plain_results Shl a b c f g e = e
checked_forms_give_plain_results Shr a b c f g e = e
checked_forms_give_plain_results ShrUn a b c f g e = e
