-- Numbers of 32 bits, and their words.
use Rattle.std.proofs.Common.{◌≡◌, ℕ, zero, suc, ◌/◌, ◌%◌, ◌^◌, ◌<◌, ◌≤◌, ℤ, pos, negsuc, neg_ℤ, sym, ap, ◌∙◌, arith}
use Rattle.std.proofs.Math.Nat.{mod-eq_of_lt, div-le_self}
use Rattle.std.proofs.lemmas.Int.{to_z-of_z}
use Rattle.std.specs.Int.{Width, w32, w64, cast_signed, cast_unsigned, int_wrapping_div}
use Rattle.std.specs.Int.Signed.{mag, mag_rem}
use Rattle.std.specs.Prelude.{int_div, int_rem}
use Rattle.rv_machine.specs.Words.{low_bits, word, word32, quotient, remainder}
use Rattle.rv_machine.proofs.Quotients.{quotient_is, remainder_is}

-- a number below the divisor is its remainder
pub mod_small : (p m : ℕ) → p < m → p % m ≡ p
mod_small p m h = mod-eq_of_lt h

-- the low 32 bits of a number within 33
low_bits_small : (z : ℤ) → mag z < 2 ^ 32 → low_bits 32 z ≡ cast_unsigned w32 z
low_bits_small (pos n) h = mod_small n (2 ^ 32) h
low_bits_small (negsuc n) h = omega (arith, mod_small n (2 ^ 32) h)

-- so the word of such a result is that of its 32 bits
pub word32_small : (z : ℤ) → mag z < 2 ^ 32 → word32 z ≡ word (cast_signed w32 (cast_unsigned w32 z))
word32_small z h = ap (λ n. word (cast_signed w32 n)) (low_bits_small z h)

-- a negated number is no farther from 0
mag_neg : (q : ℕ) → mag (neg_ℤ (pos q)) ≤ q
mag_neg zero = omega arith
mag_neg (suc q) = omega arith

-- a quotient is no farther from 0 than its dividend
pub mag_quot : (z d : ℤ) → mag (int_div z d) ≤ suc (mag z)
mag_quot (pos a) (pos b) = omega (arith, div-le_self a b)
mag_quot (pos a) (negsuc b) = omega (arith, div-le_self a (suc b), mag_neg (a / suc b))
mag_quot (negsuc a) (pos b) = omega (arith, div-le_self (suc a) b, mag_neg (suc a / b))
mag_quot (negsuc a) (negsuc b) = omega (arith, div-le_self (suc a) (suc b))

-- a number of the code, which its width holds
abbrev wide : Width → ℤ → ℤ
wide w z = cast_signed w (cast_unsigned w z)

-- the word that the code makes of the quotient of two numbers of 32 bits
pub quotient32_is : (x y q wider : ℤ) (result : ℕ) → mag x < 2 ^ 31 → mag y < 2 ^ 31 → (cast_unsigned w32 y ≡ 0 → ⊥) → q ≡ int_wrapping_div w32 (wide w32 x) (wide w32 y) → mag q < 2 ^ 31 → wider ≡ wide w32 q → mag wider < 2 ^ 63 → result ≡ word (wide w64 wider) → result ≡ word32 (quotient x y)
quotient32_is x y q wider result fx fy some eq fq ew fw er =
    let a = to_z-of_z w32 x (record { sfits = fx }) in
    let b = to_z-of_z w32 y (record { sfits = fy }) in
    let value : q ≡ wide w32 (int_div x y) = eq ∙ ap (λ z. wide w32 (int_div z (wide w32 y))) a ∙ ap (λ z. wide w32 (int_div x z)) b in
    let same : wider ≡ q = ew ∙ to_z-of_z w32 q (record { sfits = fq }) in
    let nonzero : y ≡ pos 0 → ⊥ = λ e. some (ap (cast_unsigned w32) e) in
    er ∙ ap word (to_z-of_z w64 wider (record { sfits = fw }) ∙ same ∙ value)
    ∙ sym (word32_small (int_div x y) (omega (arith, mag_quot x y)))
    ∙ ap word32 (sym (quotient_is x y nonzero))

-- and of their remainder
pub remainder32_is : (x y q wider : ℤ) (result : ℕ) → mag x < 2 ^ 31 → mag y < 2 ^ 31 → (cast_unsigned w32 y ≡ 0 → ⊥) → q ≡ int_rem (wide w32 x) (wide w32 y) → mag q < 2 ^ 31 → wider ≡ wide w32 q → mag wider < 2 ^ 63 → result ≡ word (wide w64 wider) → result ≡ word32 (remainder x y)
remainder32_is x y q wider result fx fy some eq fq ew fw er =
    let a = to_z-of_z w32 x (record { sfits = fx }) in
    let b = to_z-of_z w32 y (record { sfits = fy }) in
    let value : q ≡ int_rem x y = eq ∙ ap (λ z. int_rem z (wide w32 y)) a ∙ ap (λ z. int_rem x z) b in
    let nonzero : y ≡ pos 0 → ⊥ = λ e. some (ap (cast_unsigned w32) e) in
    er ∙ ap word (to_z-of_z w64 wider (record { sfits = fw }) ∙ ew ∙ ap (wide w32) value)
    ∙ sym (word32_small (int_rem x y) (omega (arith, mag_rem x y)))
    ∙ ap word32 (sym (remainder_is x y nonzero))
