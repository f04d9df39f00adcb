-- A printed number of sixteen digits is read back.
use Rattle.std.proofs.Common.{◌≡◌, refl, ap, ◌∙◌, ℕ, zero, suc, ◌+◌, ◌-◌, ◌/◌, ◌%◌, ◌^◌, ◌<◌, ◌≤◌, false, eqb, List, [], ◌∷◌, ◌++◌, length, Option, Some, None, arith, codes, length-append}
use Rattle.std.specs.Prelude.{replicate}
use Rattle.std.specs.Fmt.{digits, digits_onto, digit_glyph}
use Rattle.std.specs.Str.Parse.{AllDigits, IsNumeral, digits_value}
use Rattle.std.proofs.Math.Nat.{pow-suc}
use Rattle.std.proofs.lemmas.Bool.{cond_both, eqb-false}
use Rattle.std.proofs.lemmas.List.{length-replicate}
use Rattle.std.proofs.lemmas.Fmt.{digits_is_IsNumeral}
use Rattle.host_run.specs.Grammar.{number, after, word_value}
use Rattle.host_run.specs.Texts.{sixteen_digits}
use Rattle.host_run.specs.NativeLaws.{PrintedNumbersReadBack}
use Rattle.host_run.proofs.Numerals.{number_some}

-- a number below 16 ^ k has at most k digits
few_digits : (most k n : ℕ) (behind : List ℕ) → n < 16 ^ suc k → length (digits_onto most 16 false n behind) ≤ suc k + length behind
few_digits zero k n behind small = omega arith
few_digits (suc most) zero n behind small =
    cond_both (eqb (n / 16) 0) (digit_glyph false (n % 16) ∷ behind) (digits_onto most 16 false (n / 16) (digit_glyph false (n % 16) ∷ behind)) (λ ds. length ds ≤ 1 + length behind)
    (λ _. omega arith) (λ more. absurd (eqb-false (n / 16) 0 more (omega arith)))
few_digits (suc most) (suc k) n behind small =
    cond_both (eqb (n / 16) 0) (digit_glyph false (n % 16) ∷ behind) (digits_onto most 16 false (n / 16) (digit_glyph false (n % 16) ∷ behind)) (λ ds. length ds ≤ suc (suc k) + length behind)
    (λ _. omega arith)
    (λ _. let fewer = few_digits most k (n / 16) (digit_glyph false (n % 16) ∷ behind) (omega (arith, pow-suc 16 (suc k))) in omega (arith, fewer))

at_most_sixteen : (n : ℕ) → n < 2 ^ 64 → length (digits 16 false n) ≤ 16
unfolding digits
at_most_sixteen n small = few_digits 64 15 n [] small

-- zeros in front are digits, and change no value
zeros_are_digits : (k : ℕ) (ds : List ℕ) → AllDigits 16 ds → AllDigits 16 (replicate k 48 ++ ds)
zeros_are_digits zero ds h = h
zeros_are_digits (suc k) ds h = (omega arith, zeros_are_digits k ds h)

zeros_are_nothing : (k : ℕ) (ds : List ℕ) → digits_value 16 (replicate k 48 ++ ds) ≡ digits_value 16 ds
zeros_are_nothing zero ds = refl
zeros_are_nothing (suc k) ds = zeros_are_nothing k ds

sixteen : (n : ℕ) → n < 2 ^ 64 → length (sixteen_digits n) ≡ 16
unfolding sixteen_digits
sixteen n small =
    let ds = digits 16 false n in
    omega (arith, at_most_sixteen n small, length-append (replicate (16 - length ds) 48) ds, length-replicate {A = ℕ} (16 - length ds) 48)

sixteen_are_a_numeral : (n : ℕ) → n < 2 ^ 64 → IsNumeral 16 (sixteen_digits n) × (digits_value 16 (sixteen_digits n) ≡ n)
unfolding sixteen_digits
sixteen_are_a_numeral n small =
    let ds = digits 16 false n in
    let reads = digits_is_IsNumeral 16 false (omega arith) (omega arith) n (omega arith) in
    ((omega (arith, sixteen n small), zeros_are_digits (16 - length ds) ds reads.0.1), zeros_are_nothing (16 - length ds) ds ∙ reads.1)

after_prefix : (ds : List ℕ) → after (codes "0x") (codes "0x" ++ ds) ≡ Some ds
unfolding after
after_prefix ds = refl

prefixed : (ds : List ℕ) → word_value (codes "0x" ++ ds) ≡ number 16 16 (2 ^ 64 - 1) ds
unfolding word_value
prefixed ds =
    ap (λ (o : Option (List ℕ)). elim o as (λ _. Option ℕ) [ Some digits ↦ number 16 16 (2 ^ 64 - 1) digits | None ↦ number 10 20 (2 ^ 64 - 1) (codes "0x" ++ ds) ])
    (after_prefix ds)

pub printed_numbers_read_back : PrintedNumbersReadBack
printed_numbers_read_back n small =
    let reads = sixteen_are_a_numeral n small in
    let long = sixteen n small in
    (long, prefixed (sixteen_digits n) ∙ number_some 16 16 (2 ^ 64 - 1) (sixteen_digits n) reads.0 (omega (arith, long)) (omega (arith, reads.1)) ∙ ap (λ (v : ℕ). Some v) reads.1)
