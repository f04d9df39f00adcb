-- A signed number and its two's complement give each other back.
use Rattle.std.proofs.Common.{◌≡◌, ℕ, ◌+◌, ◌-◌, ◌%◌, ◌^◌, ◌<◌, true, ℤ, pos, negsuc, arith}
use Rattle.std.proofs.lemmas.Bool.Decides.{nat_tests}
use Rattle.rv_decode.specs.Fields.{twos_complement, signed, holds, is_even}

module _ (width : ℕ) (halves : 2 ^ width ≡ 2 ^ (width - 1) + 2 ^ (width - 1)) where
  pub signed-twos_complement : (z : ℤ) → holds width z ≡ true → signed width (twos_complement width z) ≡ z
  signed-twos_complement (pos n) h = grind (arith, nat_tests)
  signed-twos_complement (negsuc n) h = grind (arith, nat_tests)

  pub twos_complement-signed : (n : ℕ) → n < 2 ^ width → twos_complement width (signed width n) ≡ n
  twos_complement-signed n h = grind (arith, nat_tests)

  pub holds-signed : (n : ℕ) → n < 2 ^ width → holds width (signed width n) ≡ true
  holds-signed n h = grind (arith, nat_tests)

  pub twos_complement-lt : (z : ℤ) → holds width z ≡ true → twos_complement width z < 2 ^ width
  twos_complement-lt (pos n) h = grind (arith, nat_tests)
  twos_complement-lt (negsuc n) h = grind (arith, nat_tests)

  pub is_even-signed : (n : ℕ) → 2 ^ width % 2 ≡ 0 → n < 2 ^ width → n % 2 ≡ 0 → is_even (signed width n) ≡ true
  is_even-signed n whole h even = grind (arith, nat_tests)

  pub twos_complement-even : (z : ℤ) → 2 ^ width % 2 ≡ 0 → holds width z ≡ true → is_even z ≡ true → twos_complement width z % 2 ≡ 0
  twos_complement-even (pos n) whole h even = grind (arith, nat_tests)
  twos_complement-even (negsuc n) whole h even = grind (arith, nat_tests)
