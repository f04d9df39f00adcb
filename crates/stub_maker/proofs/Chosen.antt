-- The numbers of the steps that are chosen among some are those of the steps that pass.
use Rattle.std.proofs.Common.{◌≡◌, ◌↔◌, ◌⊎◌, inl, inr, ℕ, zero, suc, ◌+◌, ◌-◌, ◌<◌, Bool, true, false, ◌||◌, cond, List, [], ◌∷◌, length, map, reverse, get_or, Option, Some, None, nat_lt, refl, sym, ap, subst, arith, ◌∙◌}
use Rattle.std.specs.Prelude.{Contains, IsSomeAnd, slice_get}
use Rattle.std.specs.List.{range_with_len, filter}
use Rattle.std.proofs.lemmas.Bool.Decides.{nat_tests}
use Rattle.std.proofs.lemmas.List.{get_or-reverse, length-reverse, reverse-reverse}
use Rattle.native_layout.specs.declared.shapes.Shape.{Shape}
use Rattle.native_layout.specs.Shapes.{texts_in}
use Rattle.stub_maker.specs.declared.stub.Mark.TheVariants.{Give, Take, Both}
use Rattle.stub_maker.specs.declared.stub.Step.{Step}
use Rattle.stub_maker.specs.declared.stub.Step.TheVariants as step
use Rattle.stub_maker.specs.Steps.{argument_of}
use Rattle.stub_maker.specs.Extents.{size}
use Rattle.stub_maker.specs.Rules.{ended, greatest_in_words, is_read_back, may_lend, read_back}
use Rattle.stub_maker.specs.Laws.{ComesBack, MayLend}

-- ---- elements of lists

contains_first : (n : ℕ) (ns : List ℕ) (m : ℕ) → n ≡ m → Contains (n ∷ ns) m
contains_first n ns m same = (0, omega arith, same)

contains_later : (n : ℕ) (ns : List ℕ) (m : ℕ) → Contains ns m → Contains (n ∷ ns) m
contains_later n ns m c = let within : c.0 < length ns = c.1 in (suc c.0, omega arith, c.2)

contains_either : (n : ℕ) (ns : List ℕ) (m : ℕ) → Contains (n ∷ ns) m → (n ≡ m) ⊎ Contains ns m
contains_either n ns m c = at c.0 c.1 c.2
  where
    at : (k : ℕ) → k < length (n ∷ ns) → get_or (n ∷ ns) k m ≡ m → (n ≡ m) ⊎ Contains ns m
    at zero within is = inl is
    at (suc k) within is = inr (k, omega arith, is)

contains_reversed : (ns : List ℕ) (m : ℕ) → Contains ns m → Contains (reverse ns) m
contains_reversed ns m c =
    let within : c.0 < length ns = c.1 in
    let many : length (reverse ns) ≡ length ns = length-reverse ns in
    let back : length ns - 1 - (length ns - 1 - c.0) ≡ c.0 = omega arith in (
      length ns - 1 - c.0,
      omega arith,
      get_or-reverse ns (length ns - 1 - c.0) m (omega arith) ∙ (ap (λ i. get_or ns i m) back ∙ c.2),
    )

unreversed : (ns : List ℕ) (m : ℕ) → Contains (reverse ns) m → Contains ns m
unreversed ns m c =
    let P : List ℕ → Type 0 = λ xs. Contains xs m in
    subst P (reverse-reverse ns) (contains_reversed (reverse ns) m c)

-- ---- steps that pass a test

record Passing (p : Step → Bool) (k : ℕ) (steps : List Step) (m : ℕ) : Type 0 where
  pub place : ℕ
  pub is : m ≡ k + place
  pub passes : IsSomeAnd (slice_get steps place) (λ s. p s ≡ true)

passing_later : (p : Step → Bool) (k : ℕ) (s : Step) (steps : List Step) (m : ℕ) → Passing p (k + 1) steps m → Passing p k (s ∷ steps) m
passing_later p k s steps m h =
    let there : m ≡ k + 1 + h.place = h.is in record {
      place = suc h.place;
      is = omega arith;
      passes = h.passes;
    }

first_or_later : (p : Step → Bool) (k : ℕ) (s : Step) (steps : List Step) (m : ℕ) → argument_of s ≡ k
    → (Contains (map argument_of (filter p steps)) m → Passing p k (s ∷ steps) m) → (b : Bool) → p s ≡ b
    → Contains (map argument_of (cond b (s ∷ filter p steps) (filter p steps))) m → Passing p k (s ∷ steps) m
first_or_later p k s steps m here later true is h =
    elim (contains_either (argument_of s) (map argument_of (filter p steps)) m h) [
      | inl same ↦ record { place = 0; is = omega (arith, same, here); passes = is }
      | inr more ↦ later more
    ]
first_or_later p k s steps m here later false is h = later h

chosen_pass : (p : Step → Bool) (k n : ℕ) (steps : List Step) → map argument_of steps ≡ range_with_len k n → (m : ℕ)
    → Contains (map argument_of (filter p steps)) m → Passing p k steps m
chosen_pass p k n [] e m c = absurd (let h : c.0 < 0 = c.1 in omega arith)
chosen_pass p k zero (s ∷ steps) e m c = absurd (let h : ⊥ = cc in h)
chosen_pass p k (suc n) (s ∷ steps) e m c =
    let here : argument_of s ≡ k = cc in
    let rest : map argument_of steps ≡ range_with_len (k + 1) n = cc in
    first_or_later p k s steps m here (λ h. passing_later p k s steps m (chosen_pass p (k + 1) n steps rest m h)) (p s) refl c

pass_chosen : (p : Step → Bool) (k n : ℕ) (steps : List Step) → map argument_of steps ≡ range_with_len k n → (m place : ℕ) → m ≡ k + place
    → IsSomeAnd (slice_get steps place) (λ s. p s ≡ true) → Contains (map argument_of (filter p steps)) m
pass_chosen p k n [] e m place is h = absurd h
pass_chosen p k zero (s ∷ steps) e m place is h = absurd (let h : ⊥ = cc in h)
pass_chosen p k (suc n) (s ∷ steps) e m zero is h =
    let here : argument_of s ≡ k = cc in
    let P : Bool → Type 0 = λ b. Contains (map argument_of (cond b (s ∷ filter p steps) (filter p steps))) m in
    subst P (sym h) (contains_first (argument_of s) (map argument_of (filter p steps)) m (omega (arith, here, is)))
pass_chosen p k (suc n) (s ∷ steps) e m (suc place) is h =
    let rest : map argument_of steps ≡ range_with_len (k + 1) n = cc in
    let more : Contains (map argument_of (filter p steps)) m = pass_chosen p (k + 1) n steps rest m place (omega (arith, is)) h in
    elim (p s) as (λ b. Contains (map argument_of (cond b (s ∷ filter p steps) (filter p steps))) m) [
      | true ↦ contains_later (argument_of s) (map argument_of (filter p steps)) m more
      | false ↦ more
    ]

-- ---- what the tests say

some_and : {A : Type 0} (o : Option A) (P Q : A → Type 0) → ((a : A) → P a → Q a) → IsSomeAnd o P → IsSomeAnd o Q
some_and None P Q f h = h
some_and (Some a) P Q f h = f a h

came_back : (s : Step) → is_read_back s ≡ true → ComesBack s
came_back (step.Place k Give s) h = absurd (cc)
came_back (step.Place k Take s) h = λ same. cc
came_back (step.Place k Both s) h = λ same. cc
came_back (step.Copy k Give s) h = absurd (cc)
came_back (step.Copy k Take s) h = λ same. cc
came_back (step.Copy k Both s) h = λ same. cc
came_back _ h = cc

comes_back : (s : Step) → ComesBack s → is_read_back s ≡ true
comes_back (step.Place k Give s) h = absurd (h refl)
comes_back (step.Place k Take s) h = refl
comes_back (step.Place k Both s) h = refl
comes_back (step.Copy k Give s) h = absurd (h refl)
comes_back (step.Copy k Take s) h = refl
comes_back (step.Copy k Both s) h = refl
comes_back _ h = absurd h

either_true : (a b : Bool) → (a || b) ≡ true → (a ≡ true) ⊎ (b ≡ true)
either_true true b h = inl refl
either_true false b h = inr h

or_true : (a b : Bool) → b ≡ true → (a || b) ≡ true
or_true true b h = refl
or_true false b h = h

true_or : (a b : Bool) → a ≡ true → (a || b) ≡ true
true_or true b h = refl
true_or false b h = absurd (cc)

passed_above : (n m : ℕ) → nat_lt n m ≡ true → n < m
passed_above n m h = grind (arith, nat_tests)

above_passes : (n m : ℕ) → n < m → nat_lt n m ≡ true
above_passes n m h = grind (arith, nat_tests)

value_lends : (s : Shape) → (nat_lt greatest_in_words (size s) || texts_in s) ≡ true → (greatest_in_words < size s) ⊎ (texts_in s ≡ true)
value_lends s h =
    elim (either_true (nat_lt greatest_in_words (size s)) (texts_in s) h) [
      | inl large ↦ inl (passed_above greatest_in_words (size s) large)
      | inr texts ↦ inr texts
    ]

lends_value : (s : Shape) → (greatest_in_words < size s) ⊎ (texts_in s ≡ true) → (nat_lt greatest_in_words (size s) || texts_in s) ≡ true
lends_value s (inl large) = true_or (nat_lt greatest_in_words (size s)) (texts_in s) (above_passes greatest_in_words (size s) large)
lends_value s (inr texts) = or_true (nat_lt greatest_in_words (size s)) (texts_in s) texts

lent : (s : Step) → may_lend s ≡ true → MayLend s
lent (step.Hold k) h = tt
lent (step.Word k s) h = cc
lent (step.Text k e) h = tt
lent (step.Value k s) h = value_lends s h
lent (step.Place k m s) h = tt
lent (step.Lend k s) h = tt
lent (step.Copy k m s) h = tt
lent (step.Thunk k) h = cc

lends : (s : Step) → MayLend s → may_lend s ≡ true
lends (step.Hold k) h = refl
lends (step.Word k s) h = absurd h
lends (step.Text k e) h = refl
lends (step.Value k s) h = lends_value s h
lends (step.Place k m s) h = refl
lends (step.Lend k s) h = refl
lends (step.Copy k m s) h = refl
lends (step.Thunk k) h = absurd h

-- ---- the steps of a stub

module _ (n : ℕ) (steps : List Step) (e : map argument_of steps ≡ range_with_len 0 n) where
  passing : (p : Step → Bool) (k : ℕ) → Contains (map argument_of (filter p steps)) k → IsSomeAnd (slice_get steps k) (λ s. p s ≡ true)
  passing p k c =
      let h = chosen_pass p 0 n steps e k c in
      let same : h.place ≡ k = omega (arith, h.is) in
      subst (λ (j : ℕ). IsSomeAnd (slice_get steps j) (λ s. p s ≡ true)) same h.passes

  chosen : (p : Step → Bool) (k : ℕ) → IsSomeAnd (slice_get steps k) (λ s. p s ≡ true) → Contains (map argument_of (filter p steps)) k
  chosen p k h = pass_chosen p 0 n steps e k k (omega arith) h

  pub back_is : (k : ℕ) → Contains (read_back steps) k ↔ IsSomeAnd (slice_get steps k) ComesBack
  back_is k = (
    λ c. some_and (slice_get steps k) (λ s. is_read_back s ≡ true) ComesBack came_back (passing is_read_back k c),
    λ h. chosen is_read_back k (some_and (slice_get steps k) ComesBack (λ s. is_read_back s ≡ true) comes_back h),
  )

  pub ends_are : (k : ℕ) → Contains (ended steps) k ↔ IsSomeAnd (slice_get steps k) MayLend
  ends_are k = (
    λ c. some_and (slice_get steps k) (λ s. may_lend s ≡ true) MayLend lent
        (passing may_lend k (unreversed (map argument_of (filter may_lend steps)) k c)),
    λ h. contains_reversed (map argument_of (filter may_lend steps)) k
        (chosen may_lend k (some_and (slice_get steps k) MayLend (λ s. may_lend s ≡ true) lends h)),
  )
