-- Integers and their patterns in n bits.
use Rattle.std.proofs.Common.{◌≡◌, ℕ, zero, suc, ◌+◌, ◌-◌, ◌*◌, ◌%◌, ◌^◌, ◌<◌, ◌≤◌, ℤ, pos, negsuc, ◌-ℤ◌, ◌+ℤ◌, refl, sym, ap, ◌∙◌, ⊎_elim, arith}
use Rattle.std.proofs.Math.Nat.{pow-suc, mod-eq_of_lt, pow-le-pow_right}
use Rattle.std.proofs.lemmas.Bool.{cond_below, cond_above, cases_lt}
use Rattle.std.proofs.lemmas.Int.{ints, int_rem_euclid_is}
use Rattle.std.proofs.lemmas.Nat.{pow_pos, pow-add, or_comm, or_shifted, mod_low}
use Rattle.std.proofs.lemmas.Nat.Bits.{ones_shl}
use Rattle.std.specs.Int.Signed.{mag}
use Rattle.std.specs.Prelude.{bit_or, unsigned_abs}
use Rattle.lp64_convention.specs.Widening.{pattern, signed_of}

-- twice the half is the whole
pub halves : (n : ℕ) → 0 < n → 2 * 2 ^ (n - 1) ≡ 2 ^ n
halves zero h = absurd (omega arith)
halves (suc n) h =
    let e : suc n - 1 ≡ n = omega arith in
    ap (λ k. 2 * 2 ^ k) e ∙ omega (arith, pow-suc 2 n)

-- more bits have no fewer patterns
pub more_bits : (n m : ℕ) → n ≤ m → 2 ^ n ≤ 2 ^ m
more_bits n m h = pow-le-pow_right (omega arith) h

pub mod_small : (p m : ℕ) → p < m → p % m ≡ p
mod_small p m h = mod-eq_of_lt h

-- an integer m more than k times 2 ^ n has the pattern of m
pub pattern_is : (n k m : ℕ) (z : ℤ) → z +ℤ pos (k * 2 ^ n) ≡ pos m → pattern n z ≡ m % 2 ^ n
pattern_is n k m z h = ap unsigned_abs (int_rem_euclid_is z (pos (2 ^ n)) (2 ^ n) k m (pow_pos n) refl h)

-- a pattern below the half stands for itself
pub signed_of_low : (n p : ℕ) → p < 2 ^ (n - 1) → signed_of n p ≡ pos p
signed_of_low n p h = sym (cond_below p (2 ^ (n - 1)) (pos p) (pos p -ℤ pos (2 ^ n)) h)

-- another for 2 ^ n less
pub signed_of_high : (n p : ℕ) → 2 ^ (n - 1) ≤ p → signed_of n p ≡ pos p -ℤ pos (2 ^ n)
signed_of_high n p h = sym (cond_above p (2 ^ (n - 1)) (pos p) (pos p -ℤ pos (2 ^ n)) (pos p -ℤ pos (2 ^ n)) h refl)

-- a pattern of n bits in m bits
pub extended_low : (n m p : ℕ) → 0 < n → n ≤ m → p < 2 ^ (n - 1) → pattern m (signed_of n p) ≡ p
extended_low n m p h l low =
    ap (pattern m) (signed_of_low n p low) ∙ mod_small p (2 ^ m) (omega (arith, halves n h, more_bits n m l))

pub extended_high : (n m p : ℕ) → 0 < n → n ≤ m → 2 ^ (n - 1) ≤ p → p < 2 ^ n → pattern m (signed_of n p) + 2 ^ n ≡ 2 ^ m + p
extended_high n m p h l high within =
    let more : 2 ^ n ≤ 2 ^ m = more_bits n m l in
    let r : ℕ = 2 ^ m + p - 2 ^ n in
    let e : pattern m (signed_of n p) ≡ r % 2 ^ m = ap (pattern m) (signed_of_high n p high) ∙ pattern_is m 1 r _ (omega (arith, ints)) in
    omega (arith, e, mod_small r (2 ^ m) (omega arith))

-- the pattern of n bits of what n bits stand for
pub pattern-signed_of : (n p : ℕ) → 0 < n → p < 2 ^ n → pattern n (signed_of n p) ≡ p
pattern-signed_of n p h within =
    ⊎_elim (λ low. extended_low n n p h (omega arith) low) (λ high. omega (arith, extended_high n n p h (omega arith) high within)) (cases_lt p (2 ^ (n - 1)))

-- what the pattern of an integer within n bits stands for
pub signed_of-pattern : (n : ℕ) (z : ℤ) → 0 < n → mag z < 2 ^ (n - 1) → signed_of n (pattern n z) ≡ z
signed_of-pattern n (pos a) h fits =
    let e : a % 2 ^ n ≡ a = mod_small a (2 ^ n) (omega (arith, halves n h)) in
    ap (signed_of n) e ∙ signed_of_low n a fits
signed_of-pattern n (negsuc a) h fits =
    let half = halves n h in
    let e : a % 2 ^ n ≡ a = mod_small a (2 ^ n) (omega arith) in
    let p : ℕ = 2 ^ n - 1 - a in
    ap (λ x. signed_of n (2 ^ n - 1 - x)) e ∙ signed_of_high n p (omega arith) ∙ omega (arith, ints)

minus_one : (a b : ℕ) → 0 < a → (a - 1) * b + b ≡ a * b
minus_one zero b h = absurd (omega arith)
minus_one (suc a) b h =
    let e : suc a - 1 ≡ a = omega arith in
    ap (λ x. x * b + b) e ∙ omega arith

-- the ones above n of 64 bits
ones_above : (n : ℕ) → n ≤ 64 → (2 ^ (64 - n) - 1) * 2 ^ n + 2 ^ n ≡ 2 ^ 64
ones_above n h =
    let k : ℕ = 64 - n in
    let sum : k + n ≡ 64 = omega arith in
    minus_one (2 ^ k) (2 ^ n) (pow_pos k) ∙ sym (pow-add 2 k n) ∙ ap (λ m. 2 ^ m) sum

pub or_ones : (n p : ℕ) → n ≤ 64 → p < 2 ^ n → bit_or p ((2 ^ 64 - 1) * 2 ^ n % 2 ^ 64) + 2 ^ n ≡ 2 ^ 64 + p
or_ones n p h within =
    let a : ℕ = 2 ^ (64 - n) - 1 in
    let all = ones_above n h in
    let high : 2 ^ 64 - 2 ^ n ≡ a * 2 ^ n = omega (arith, all) in
    let e : bit_or p ((2 ^ 64 - 1) * 2 ^ n % 2 ^ 64) ≡ a * 2 ^ n + p = ap (bit_or p) (ones_shl 64 n h ∙ high) ∙ or_comm p (a * 2 ^ n) ∙ or_shifted a n p within in
    omega (arith, e, all)

-- the low bits of a number that is extended
pub extended_mod : (n p : ℕ) → 0 < n → n ≤ 64 → p < 2 ^ n → pattern 64 (signed_of n p) % 2 ^ n ≡ p
extended_mod n p h l within =
    let a : ℕ = 2 ^ (64 - n) - 1 in
    let all = ones_above n l in
    ⊎_elim
    (λ low. ap (λ x. x % 2 ^ n) (extended_low n 64 p h l low) ∙ mod_small p (2 ^ n) within)
    (λ high.
    let e : pattern 64 (signed_of n p) ≡ a * 2 ^ n + p = omega (arith, all, extended_high n 64 p h l high within) in
    ap (λ x. x % 2 ^ n) e ∙ mod_low a n p within)
    (cases_lt p (2 ^ (n - 1)))

-- what n bits stand for lies within m bits too
pub within_more : (n m p : ℕ) → 0 < n → n ≤ m → p < 2 ^ n → mag (signed_of n p) < 2 ^ (m - 1)
within_more n m p h l within =
    let more = more_bits (n - 1) (m - 1) (omega arith) in
    let half = halves n h in
    ⊎_elim
    (λ low. let e = ap mag (signed_of_low n p low) in omega arith)
    (λ high.
    let value : signed_of n p ≡ negsuc (2 ^ n - 1 - p) = signed_of_high n p high ∙ omega (arith, ints) in
    let e = ap mag value in omega arith)
    (cases_lt p (2 ^ (n - 1)))
