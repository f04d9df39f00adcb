-- Lemmas on fields that share bytes.
use Rattle.std.proofs.Common.{◌≡◌, ◌≢◌, ℕ, zero, suc, ◌+◌, ◌≤◌, ◌<◌, Bool, true, false, cond, nat_lt, List, [], ◌∷◌, length, get_or, Some, None, arith, inl, inr, refl, ◌∙◌, ap}
use Rattle.std.proofs.lemmas.Bool.Decides.{nat_tests}
use Rattle.std.proofs.lemmas.List.Quantifiers.{position-Some}
use Rattle.std.proofs.lemmas.List.Sums.{fails_before_first}
use Rattle.std.specs.List.{count_by, position, position_or_len}
use Rattle.native_layout.specs.declared.extent.Range.{Range}
use Rattle.native_layout.specs.Struct.{overlaps_another, share_a_byte}
use Rattle.native_layout.specs.OverlapLaws.{OverlapsAreFound}
use Rattle.native_layout.proofs.Counts.{count_by-cons, decided}

more_than : (a b : ℕ) → nat_lt a b ≡ true → a < b
more_than a b h = grind (arith, nat_tests)

at_most : (a b : ℕ) → nat_lt a b ≡ false → b ≤ a
at_most a b h = grind (arith, nat_tests)

count_passing : {X : Type 0} (p : X → Bool) (x : X) (xs : List X) → p x ≡ true → count_by p (x ∷ xs) ≡ 1 + count_by p xs
count_passing p x xs is = count_by-cons p x xs ∙ ap (λ b. cond b 1 0 + count_by p xs) is

count_failing : {X : Type 0} (p : X → Bool) (x : X) (xs : List X) → p x ≡ false → count_by p (x ∷ xs) ≡ 0 + count_by p xs
count_failing p x xs is = count_by-cons p x xs ∙ ap (λ b. cond b 1 0 + count_by p xs) is

record Passing {X : Type 0} (p : X → Bool) (xs : List X) (d : X) : Type 0 where
  at : ℕ
  within : at < length xs
  passes : p (get_or xs at d) ≡ true

-- where one at least is counted, one passes
some_pass : {X : Type 0} (p : X → Bool) (xs : List X) (d : X) → 1 ≤ count_by p xs → Passing p xs d
some_pass p [] d h = absurd (omega arith)
some_pass p (x ∷ xs) d h = elim (decided (p x)) [
  | inl here ↦ record { at = 0; within = omega arith; passes = here }
  | inr fails ↦
      let rest : 1 ≤ count_by p xs = omega (arith, count_failing p x xs fails) in
      let found = some_pass p xs d rest in
      record { at = suc found.at; within = omega (arith, found.within); passes = found.passes }
]

record PassingElsewhere {X : Type 0} (p : X → Bool) (xs : List X) (k : ℕ) (d : X) : Type 0 where
  at : ℕ
  within : at < length xs
  apart : at ≢ k
  passes : p (get_or xs at d) ≡ true

at_most_one : (b : Bool) → cond b 1 0 ≤ 1
at_most_one true = omega arith
at_most_one false = omega arith

-- where two at least are counted, one passes elsewhere
another_passes : {X : Type 0} (p : X → Bool) (xs : List X) (k : ℕ) (d : X) → 2 ≤ count_by p xs → PassingElsewhere p xs k d
another_passes p [] k d h = absurd (omega arith)
another_passes p (x ∷ xs) zero d h =
    let rest : 1 ≤ count_by p xs = omega (arith, count_by-cons p x xs, at_most_one (p x)) in
    let found = some_pass p xs d rest in
    record { at = suc found.at; within = omega (arith, found.within); apart = omega arith; passes = found.passes }
another_passes p (x ∷ xs) (suc k) d h = elim (decided (p x)) [
  | inl here ↦ record { at = 0; within = omega arith; apart = omega arith; passes = here }
  | inr fails ↦
      let rest : 2 ≤ count_by p xs = omega (arith, count_failing p x xs fails) in
      let found = another_passes p xs k d rest in
      record { at = suc found.at; within = omega (arith, found.within); apart = omega (arith, found.apart); passes = found.passes }
]

-- what passes is counted
one_counted : {X : Type 0} (p : X → Bool) (xs : List X) (k : ℕ) (d : X) → k < length xs → p (get_or xs k d) ≡ true → 1 ≤ count_by p xs
one_counted p [] k d lt is = absurd (omega arith)
one_counted p (x ∷ xs) zero d lt is = omega (arith, count_passing p x xs is)
one_counted p (x ∷ xs) (suc k) d lt is = omega (arith, count_by-cons p x xs, one_counted p xs k d (omega arith) is)

two_counted : {X : Type 0} (p : X → Bool) (xs : List X) (j k : ℕ) (d : X) → j < k → k < length xs → p (get_or xs j d) ≡ true → p (get_or xs k d) ≡ true → 2 ≤ count_by p xs
two_counted p [] j k d less lt is is' = absurd (omega arith)
two_counted p (x ∷ xs) j zero d less lt is is' = absurd (omega arith)
two_counted p (x ∷ xs) zero (suc k) d less lt is is' =
    omega (arith, count_passing p x xs is, one_counted p xs k d (omega arith) is')
two_counted p (x ∷ xs) (suc j) (suc k) d less lt is is' =
    omega (arith, count_by-cons p x xs, two_counted p xs j k d (omega arith) (omega arith) is is')

-- a field that shares a byte with any field shares one with itself
shares_itself : (a b : Range) → share_a_byte a b ≡ true → share_a_byte a a ≡ true
shares_itself a b h = grind (arith, nat_tests)

-- a field that doesn't overlap shares with no other
shares_none : (rs : List Range) (i j : ℕ) (d : Range) → i < length rs → j < length rs → j ≢ i → overlaps_another rs (get_or rs i d) ≡ false
    → share_a_byte (get_or rs i d) (get_or rs j d) ≡ false
shares_none rs i j d at_i at_j apart alone =
    let few : count_by (share_a_byte (get_or rs i d)) rs ≤ 1 = at_most 1 _ alone in
    elim (decided (share_a_byte (get_or rs i d) (get_or rs j d))) [
      | inl shared ↦
          let itself = shares_itself (get_or rs i d) (get_or rs j d) shared in
          elim (decided (nat_lt i j)) [
            | inl before ↦ absurd (omega (arith, few, two_counted (share_a_byte (get_or rs i d)) rs i j d (more_than i j before) at_j itself shared))
            | inr after ↦
                let under : j ≤ i = at_most i j after in
                absurd (omega (arith, few, two_counted (share_a_byte (get_or rs i d)) rs j i d (omega arith) at_i shared itself))
          ]
      | inr none ↦ none
    ]

less_than : (a b : ℕ) → a < b → nat_lt a b ≡ true
less_than a b h = grind (arith, nat_tests)

no_position : {X : Type 0} (p : X → Bool) (xs : List X) (k : ℕ) (d : X) → position p xs ≡ None → k < length xs → p (get_or xs k d) ≡ false
no_position p xs k d none lt = elim (decided (nat_lt k (position_or_len p xs))) [
  | inl before ↦ fails_before_first p xs k d (more_than k _ before)
  | inr after ↦
      let reached : position_or_len p xs ≤ k = at_most k _ after in
      let found : nat_lt (position_or_len p xs) (length xs) ≡ true = less_than _ _ (omega arith) in
      let some : position p xs ≡ Some (position_or_len p xs) = rw found refl in
      absurd (cc)
]

pub overlaps_are_found : OverlapsAreFound
overlaps_are_found rs = record {
  some = λ k d is.
      let at = position-Some (overlaps_another rs) rs k d is in
      let found = another_passes (share_a_byte (get_or rs k d)) rs k d (more_than 1 _ at.1) in
      record { other = found.at; within = found.within; apart = found.apart; share = found.passes };
  first = λ k i j d is less at_j apart.
      let at = position-Some (overlaps_another rs) rs k d is in
      shares_none rs i j d (omega (arith, at.0)) at_j apart (at.2 i less);
  none = λ i j d is at_i at_j apart. shares_none rs i j d at_i at_j apart (no_position (overlaps_another rs) rs i d is at_i);
}
