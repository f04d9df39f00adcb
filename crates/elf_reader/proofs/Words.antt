-- The words of a chain up to the first odd one.
use Rattle.std.proofs.Common.{◌≡◌, ◌+◌, ◌*◌, ◌/◌, ◌%◌, ◌<◌, Bool, ℕ, true, false, List, Some, None, option_map, length, get_or, refl, ap, arith, zero-add}
use Rattle.std.specs.Prelude.{◌==◌}
use Rattle.std.proofs.lemmas.List.FromFn.{length-map-range_with_len, get_or-map-range_with_len}
use Rattle.byte_view.specs.Numbers.{le}
use Rattle.byte_view.specs.ElfSymbols.{words_at, chain_length}
use Rattle.elf_reader.proofs.Positions.{first_at, at_none}

abbrev is_odd : ℕ → Bool
is_odd word = word % 2 == 1

module _ (chain : List ℕ) where
  abbrev words : List ℕ
  words = words_at chain 0 (length chain / 4)

  count : length words ≡ length chain / 4
  count = length-map-range_with_len (λ k. le chain (0 + 4 * k) 4) 0 (length chain / 4)

  word : (k : ℕ) → k < length words → get_or words k 0 ≡ le chain (4 * k) 4
  word k h = rw (get_or-map-range_with_len (λ k. le chain (0 + 4 * k) 4) 0 (length chain / 4) k k 0 (omega (arith, count)) (omega arith), zero-add) refl

  even_at : (k : ℕ) → k < length words → le chain (4 * k) 4 % 2 ≡ 0 → is_odd (get_or words k 0) ≡ false
  even_at k h e = rw (word k h, e) refl

  odd_at : (k : ℕ) → k < length words → le chain (4 * k) 4 % 2 ≡ 1 → is_odd (get_or words k 0) ≡ true
  odd_at k h e = rw (word k h, e) refl

  pub odd_first : (k : ℕ) → k < length chain / 4 → le chain (4 * k) 4 % 2 ≡ 1 → ((j : ℕ) → j < k → le chain (4 * j) 4 % 2 ≡ 0) → chain_length chain ≡ Some (k + 1)
  odd_first k h odd even =
      let within : k < length words = omega (arith, count) in
      ap (option_map (λ n. n + 1)) (first_at is_odd words k 0 within (odd_at k within odd) (λ j l. even_at j (omega arith) (even j l)))

  pub none_odd : ((j : ℕ) → j < length chain / 4 → le chain (4 * j) 4 % 2 ≡ 0) → chain_length chain ≡ None
  none_odd even = ap (option_map (λ n. n + 1)) (at_none is_odd words 0 (λ j l. even_at j l (even j (omega (arith, count)))))
