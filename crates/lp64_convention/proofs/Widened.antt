-- Widened integers, size by size.
use Rattle.std.proofs.Common.{◌≡◌, ℕ, ◌*◌, ◌%◌, ◌^◌, ◌<◌, ◌⊎◌, Bool, true, false, ℤ, pos, sym, ap, ◌∙◌, ⊎_elim, inl, inr, arith, subst, max}
use Rattle.std.proofs.lemmas.Bool.Decides.{nat_tests}
use Rattle.std.proofs.lemmas.Nat.{mod_below}
use Rattle.std.specs.Int.Signed.{mag}
use Rattle.std.specs.Prelude.{IsTrue}
use Rattle.lp64_convention.specs.Widening.{is_integer_size, pattern, signed_of, integer_of, widened}
use Rattle.lp64_convention.specs.Laws.{WidenedOnceIsWide, OnlyLowBytesMatter, SignedIntegersReadBack, UnsignedWordsAreSignExtended, NarrowUnsignedIntegersReadBack}
use Rattle.lp64_convention.proofs.Patterns.{mod_small, pattern-signed_of, signed_of-pattern, within_more, extended_mod}

-- the sizes, one by one
each_size : (P : ℕ → Type 0) (width : ℕ) → IsTrue (is_integer_size width) → P 1 → P 2 → P 4 → P 8 → P width
each_size P width h one two four eight =
    let size : (width ≡ 1) ⊎ ((width ≡ 2) ⊎ ((width ≡ 4) ⊎ (width ≡ 8))) = grind (arith, nat_tests) in
    ⊎_elim (λ e. subst P (sym e) one) (⊎_elim (λ e. subst P (sym e) two) (⊎_elim (λ e. subst P (sym e) four) (λ e. subst P (sym e) eight))) size

-- an integer of 16 bits at most is what it was, and no pattern of 32 bits changes it
pub widened_small : (z : ℤ) → mag z < 2 ^ 31 → pattern 64 (signed_of 32 (pattern 32 z)) ≡ pattern 64 z
widened_small z h = ap (pattern 64) (signed_of-pattern 32 z (omega arith) h)

below : (bits m : ℕ) → 0 < m → bits % m < m
below bits m h = mod_below bits m h

pub widened_unsigned_1 : (bits : ℕ) → widened bits 1 false ≡ bits % 256
widened_unsigned_1 bits =
    let b = below bits 256 (omega arith) in
    widened_small (pos (bits % 256)) (omega arith) ∙ mod_small (bits % 256) (2 ^ 64) (omega arith)

pub widened_unsigned_2 : (bits : ℕ) → widened bits 2 false ≡ bits % 65536
widened_unsigned_2 bits =
    let b = below bits 65536 (omega arith) in
    widened_small (pos (bits % 65536)) (omega arith) ∙ mod_small (bits % 65536) (2 ^ 64) (omega arith)

pub widened_signed_1 : (bits : ℕ) → widened bits 1 true ≡ pattern 64 (signed_of 8 (bits % 256))
widened_signed_1 bits = widened_small (signed_of 8 (bits % 256)) (within_more 8 32 (bits % 256) (omega arith) (omega arith) (below bits 256 (omega arith)))

pub widened_signed_2 : (bits : ℕ) → widened bits 2 true ≡ pattern 64 (signed_of 16 (bits % 65536))
widened_signed_2 bits = widened_small (signed_of 16 (bits % 65536)) (within_more 16 32 (bits % 65536) (omega arith) (omega arith) (below bits 65536 (omega arith)))

pub widened_4 : (bits : ℕ) (signed : Bool) → widened bits 4 signed ≡ pattern 64 (signed_of 32 (bits % 2 ^ 32))
widened_4 bits true = ap (λ p. pattern 64 (signed_of 32 p)) (pattern-signed_of 32 (bits % 2 ^ 32) (omega arith) (below bits (2 ^ 32) (omega arith)))
widened_4 bits false = ap (λ p. pattern 64 (signed_of 32 p)) (mod_small (bits % 2 ^ 32) (2 ^ 32) (below bits (2 ^ 32) (omega arith)))

pub widened_8 : (bits : ℕ) (signed : Bool) → widened bits 8 signed ≡ bits % 2 ^ 64
widened_8 bits true =
    let same = pattern-signed_of 64 (bits % 2 ^ 64) (omega arith) (below bits (2 ^ 64) (omega arith)) in
    ap (λ p. pattern 64 (signed_of 64 p)) same ∙ same
widened_8 bits false =
    let same = pattern-signed_of 64 (bits % 2 ^ 64) (omega arith) (below bits (2 ^ 64) (omega arith)) in
    ap (λ p. pattern 64 (signed_of 64 p)) (mod_small (bits % 2 ^ 64) (2 ^ 64) (below bits (2 ^ 64) (omega arith))) ∙ same

pub only_low_bytes_matter : OnlyLowBytesMatter
only_low_bytes_matter a b width true e =
    let size : ℕ = 8 * max width 4 in
    ap (λ x. pattern 64 (signed_of size (pattern size (signed_of (8 * width) x)))) e
only_low_bytes_matter a b width false e =
    let size : ℕ = 8 * max width 4 in
    ap (λ x. pattern 64 (signed_of size (pattern size (pos x)))) e

-- widening leaves the low bytes
low_bytes_stay : (bits width : ℕ) (signed : Bool) → IsTrue (is_integer_size width) → widened bits width signed % 2 ^ (8 * width) ≡ bits % 2 ^ (8 * width)
low_bytes_stay bits width signed h = each_size (λ w. (s : Bool) → widened bits w s % 2 ^ (8 * w) ≡ bits % 2 ^ (8 * w)) width h
    (λ s. elim s as (λ v. widened bits 1 v % 256 ≡ bits % 256) [
      | true ↦ ap (λ x. x % 256) (widened_signed_1 bits) ∙ extended_mod 8 (bits % 256) (omega arith) (omega arith) (below bits 256 (omega arith))
      | false ↦ ap (λ x. x % 256) (widened_unsigned_1 bits) ∙ mod_small (bits % 256) 256 (below bits 256 (omega arith))
    ])
    (λ s. elim s as (λ v. widened bits 2 v % 65536 ≡ bits % 65536) [
      | true ↦ ap (λ x. x % 65536) (widened_signed_2 bits) ∙ extended_mod 16 (bits % 65536) (omega arith) (omega arith) (below bits 65536 (omega arith))
      | false ↦ ap (λ x. x % 65536) (widened_unsigned_2 bits) ∙ mod_small (bits % 65536) 65536 (below bits 65536 (omega arith))
    ])
    (λ s. ap (λ x. x % 2 ^ 32) (widened_4 bits s) ∙ extended_mod 32 (bits % 2 ^ 32) (omega arith) (omega arith) (below bits (2 ^ 32) (omega arith)))
    (λ s. ap (λ x. x % 2 ^ 64) (widened_8 bits s) ∙ mod_small (bits % 2 ^ 64) (2 ^ 64) (below bits (2 ^ 64) (omega arith)))
    signed

pub widened_once_is_wide : WidenedOnceIsWide
widened_once_is_wide bits width signed h = only_low_bytes_matter (widened bits width signed) bits width signed (low_bytes_stay bits width signed h)

pub signed_integers_read_back : SignedIntegersReadBack
signed_integers_read_back bits width h = each_size (λ w. signed_of 64 (widened bits w true) ≡ integer_of bits w true) width h
    (ap (signed_of 64) (widened_signed_1 bits) ∙ signed_of-pattern 64 (signed_of 8 (bits % 256)) (omega arith) (within_more 8 64 (bits % 256) (omega arith) (omega arith) (below bits 256 (omega arith))))
    (ap (signed_of 64) (widened_signed_2 bits) ∙ signed_of-pattern 64 (signed_of 16 (bits % 65536)) (omega arith) (within_more 16 64 (bits % 65536) (omega arith) (omega arith) (below bits 65536 (omega arith))))
    (ap (signed_of 64) (widened_4 bits true) ∙ signed_of-pattern 64 (signed_of 32 (bits % 2 ^ 32)) (omega arith) (within_more 32 64 (bits % 2 ^ 32) (omega arith) (omega arith) (below bits (2 ^ 32) (omega arith))))
    (ap (signed_of 64) (widened_8 bits true))

-- the size and the sign of a type, known
pub widened_at : (bits width n : ℕ) (signed v : Bool) (x : ℕ) → width ≡ n → signed ≡ v → widened bits n v ≡ x → x ≡ widened bits width signed
widened_at bits width n signed v x e f h = sym (ap (λ w. widened bits w signed) e ∙ ap (λ s. widened bits n s) f ∙ h)

pub unsigned_words_are_sign_extended : UnsignedWordsAreSignExtended
unsigned_words_are_sign_extended bits = widened_4 bits false ∙ sym (widened_4 bits true)

pub narrow_unsigned_integers_read_back : NarrowUnsignedIntegersReadBack
narrow_unsigned_integers_read_back bits width (inl one) = rw one (widened_unsigned_1 bits)
narrow_unsigned_integers_read_back bits width (inr two) = rw two (widened_unsigned_2 bits)
