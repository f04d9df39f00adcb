-- The text up to the first zero.
use Rattle.std.proofs.Common.{◌≡◌, ℕ, ◌+◌, ◌-◌, ◌<◌, ◌≤◌, Bool, true, false, List, length, take, drop, get_or, Some, None, option_map, refl, sym, ap, inl, inr, ◌∙◌, arith}
use Rattle.std.specs.Prelude.{◌==◌, position, nat_lt, slice_range, slice_index}
use Rattle.std.proofs.lemmas.Bool.{cases_lt, ne_eqb, eq-eqb, eqb-false, eqb-true, lt-ltb}
use Rattle.std.proofs.lemmas.List.Quantifiers.{position-Some}
use Rattle.std.proofs.lemmas.List.Sums.{fails_before_first}
use Rattle.std.specs.List.{position_or_len}
use Rattle.std.proofs.lemmas.List.{get_or-take, get_or-drop, length-take, length-drop, take-take}
use Rattle.byte_view.specs.Heaps.{text_at}
use Rattle.elf_reader.specs.Names.{IsFirstZero}
use Rattle.elf_reader.proofs.Positions.{first_at, at_none}

abbrev is_end : ℕ → Bool
is_end byte = byte == 0

pos_from_ne : (n : ℕ) → (n ≡ 0 → ⊥) → 0 < n
pos_from_ne n h = omega arith

module _ (bytes : List ℕ) (start end zero : ℕ) (it : IsFirstZero bytes start zero) where
  abbrev rest : List ℕ
  rest = slice_range bytes start end

  byte_there : (k : ℕ) → start + k < end → get_or rest k 0 ≡ get_or bytes (start + k) 0
  byte_there k h = get_or-take (end - start) (drop start bytes) k 0 (omega arith) ∙ get_or-drop start bytes k 0

  not_end : (k : ℕ) → start + k < end → start + k < zero → is_end (get_or rest k 0) ≡ false
  not_end k h l =
      let other = it.others (start + k) (omega arith) l in
      rw (byte_there k h) (ne_eqb _ 0 (λ e. omega arith))

  rest_count : start ≤ end → end ≤ length bytes → length rest ≡ end - start
  rest_count h l = omega (arith, length-take (end - start) (drop start bytes), length-drop start bytes)

  -- the zero stands before the end
  pub text_there : zero < end → end ≤ length bytes → text_at rest 0 ≡ Some (slice_range bytes start zero)
  unfolding text_at
  text_there h l =
      let from : start ≤ zero = it.from in
      let count = rest_count (omega arith) l in
      let last : is_end (get_or rest (zero - start) 0) ≡ true = rw (byte_there (zero - start) (omega arith)) (eq-eqb _ 0 (let same : start + (zero - start) ≡ zero = omega arith in rw same (it.is_zero (omega arith)))) in
      let here : position is_end rest ≡ Some (zero - start) = first_at is_end rest (zero - start) 0 (omega arith) last (λ k m. not_end k (omega arith) (omega arith)) in
      ap (option_map (λ n. take n rest)) here ∙ ap Some (take-take (zero - start) (end - start) (drop start bytes) (omega arith))

  -- the zero stands at the end or behind it
  pub no_text : start ≤ end → end ≤ length bytes → end ≤ zero → text_at rest 0 ≡ None
  unfolding text_at
  no_text h l g =
      let count = rest_count h l in
      ap (option_map (λ n. take n rest)) (at_none is_end rest 0 (λ k m. not_end k (omega arith) (omega arith)))

-- the first zero of a part is that of the whole from the part's start on
pub zero_inside : (bytes : List ℕ) (at end n : ℕ) → at ≤ end → end ≤ length bytes → position is_end (slice_range bytes at end) ≡ Some n → IsFirstZero bytes at (at + n)
zero_inside bytes at end n h l e =
    let found = position-Some is_end (slice_range bytes at end) n 0 e in
    let count : length (slice_range bytes at end) ≡ end - at = omega (arith, length-take (end - at) (drop at bytes), length-drop at bytes) in
    record {
      from = omega arith;
      within = omega (arith, found.0, count);
      others = λ k f g.
          let inside : k - at < end - at = omega (arith, found.0, count) in
          let there : get_or (slice_range bytes at end) (k - at) 0 ≡ get_or bytes (at + (k - at)) 0 = get_or-take (end - at) (drop at bytes) (k - at) 0 inside ∙ get_or-drop at bytes (k - at) 0 in
          let same : at + (k - at) ≡ k = omega arith in
          let other = found.2 (k - at) (omega arith) in
          let differs = eqb-false (get_or (slice_range bytes at end) (k - at) 0) 0 other in
          let byte : get_or (slice_range bytes at end) (k - at) 0 ≡ slice_index bytes k = rw same at there in
          pos_from_ne (slice_index bytes k) (λ z. differs (byte ∙ z));
      is_zero = λ f.
          let inside : n < end - at = omega (arith, found.0, count) in
          let there : get_or (slice_range bytes at end) n 0 ≡ get_or bytes (at + n) 0 = get_or-take (end - at) (drop at bytes) n 0 inside ∙ get_or-drop at bytes n 0 in
          sym there ∙ eqb-true _ 0 found.1;
    }

pub none_there : (p : ℕ → Bool) (xs : List ℕ) (k : ℕ) → position p xs ≡ None → k < length xs → p (get_or xs k 0) ≡ false
none_there p xs k e h =
    elim (cases_lt (position_or_len p xs) (length xs)) [
      | inl l ↦ (let passes : nat_lt (position_or_len p xs) (length xs) ≡ true = lt-ltb _ _ l in
          let some : position p xs ≡ Some (position_or_len p xs) = rw passes refl in
          absurd (cc))
      | inr g ↦ fails_before_first p xs k 0 (omega arith)
    ]

-- a part without a zero: the first zero stands behind it
pub zero_behind : (bytes : List ℕ) (at end first : ℕ) → at ≤ end → end ≤ length bytes → position is_end (slice_range bytes at end) ≡ None → IsFirstZero bytes end first → IsFirstZero bytes at first
zero_behind bytes at end first h l e it =
    let from : end ≤ first = it.from in
    let count : length (slice_range bytes at end) ≡ end - at = omega (arith, length-take (end - at) (drop at bytes), length-drop at bytes) in
    record {
      from = omega arith;
      within = it.within;
      others = λ k f g. elim (cases_lt k end) [
        | inl m ↦
            (let inside : k - at < end - at = omega arith in
            let there : get_or (slice_range bytes at end) (k - at) 0 ≡ get_or bytes (at + (k - at)) 0 = get_or-take (end - at) (drop at bytes) (k - at) 0 inside ∙ get_or-drop at bytes (k - at) 0 in
            let same : at + (k - at) ≡ k = omega arith in
            let differs = eqb-false _ 0 (none_there is_end (slice_range bytes at end) (k - at) e (omega (arith, count))) in
            let byte : get_or (slice_range bytes at end) (k - at) 0 ≡ slice_index bytes k = rw same at there in
            pos_from_ne (slice_index bytes k) (λ z. differs (byte ∙ z)))
        | inr m ↦ it.others k m g
      ];
      is_zero = it.is_zero;
    }

-- there is no zero from the end on
pub zero_at_end : (bytes : List ℕ) → IsFirstZero bytes (length bytes) (length bytes)
zero_at_end bytes = record { from = omega arith; within = omega arith; others = λ k f g. absurd (omega arith); is_zero = λ f. absurd (omega arith) }
