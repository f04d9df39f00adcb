-- Rows by the numbers in a column.
use Rattle.std.proofs.Common.{◌≡◌, ℕ, zero, suc, ◌+◌, ◌-◌, ◌<◌, ◌≤◌, ◌⊎◌, inl, inr, Bool, false, cond, List, [], ◌∷◌, length, take, get_or, slice_get, Option, None, refl, sym, ap, ◌∙◌, arith}
use Rattle.std.specs.Prelude.{◌==◌, nat_le, nat_lt, find, count_by, sum, if◌then◌else◌}
use Rattle.std.proofs.Math.ListN.{get_or-eq_default}
use Rattle.std.proofs.lemmas.Bool.{cases_lt, cases_Bool, ne_eqb}
use Rattle.std.proofs.lemmas.Bool.Decides.{nat_tests}
use Rattle.std.proofs.lemmas.List.{get_or_default, length-take, take_all}
use Rattle.std.proofs.lemmas.List.Sums.{sum_by-cons, sum_by_more, count_by-le-length}
use Rattle.type_model.specs.Module.{Module, row, rows, first_with}
use Rattle.type_model.specs.FirstRows.{first_number, TellsFirst, not_above, TellsNotAbove}

module _ (column : ℕ) where
  module _ (value : ℕ) where
    abbrev has : List ℕ → Bool
    has numbers = get_or numbers column 0 == value

    -- the row of a number, if rows are counted from n
    abbrev by_number : ℕ → List (List ℕ) → ℕ → Option (List ℕ)
    by_number n all k = if k == 0 then None else slice_get all (k - n)

    not_before : (n : ℕ) (all : List (List ℕ)) → (first_number n column value all ≡ 0) ⊎ (n ≤ first_number n column value all)
    not_before n [] = inl refl
    not_before n (r ∷ all) =
        elim (cases_Bool (has r)) [
          | inl here ↦ inr (rw here (omega arith))
          | inr later ↦
              let rest : first_number n column value (r ∷ all) ≡ first_number (n + 1) column value all =
              ap (λ (b : Bool). let k : ℕ = if b then n else first_number (n + 1) column value all in k) later in
              elim (not_before (n + 1) all) [ inl none ↦ inl (rest ∙ none) | inr more ↦ inr (omega arith) ]
        ]

    step_back : (n k : ℕ) (r : List ℕ) (all : List (List ℕ)) → (k ≡ 0) ⊎ (n + 1 ≤ k) → by_number n (r ∷ all) k ≡ by_number (n + 1) all k
    step_back n k r all (inl none) = ap (λ (i : ℕ). by_number n (r ∷ all) i) none ∙ sym (ap (λ (i : ℕ). by_number (n + 1) all i) none)
    step_back n k r all (inr some) =
        let later : k - n ≡ suc (k - (n + 1)) = omega arith in
        ap (λ (i : ℕ). let o : Option (List ℕ) = if k == 0 then None else slice_get (r ∷ all) i in o) later

    found : (n : ℕ) (all : List (List ℕ)) → 1 ≤ n → by_number n all (first_number n column value all) ≡ find has all
    found n [] above = refl
    found n (r ∷ all) above =
        elim (cases_Bool (has r)) [
          | inl here ↦
              let some : (n == 0) ≡ false = ne_eqb n 0 (λ none. omega arith) in
              let start : n - n ≡ 0 = omega arith in
              rw (here, some, start) refl
          | inr later ↦
              rw later (step_back n (first_number (n + 1) column value all) r all (not_before (n + 1) all) ∙ found (n + 1) all (omega arith))
        ]

-- the row that a table tells is the first that has the number
pub first_found : (m : Module) (table column value : ℕ) (firsts : List ℕ) → TellsFirst (rows m table) column firsts
    → row m table (get_or firsts value 0) ≡ first_with m table column value
unfolding first_with
first_found m table column value firsts tells =
    ap (row m table) (tells value) ∙ found column value 1 (rows m table) (omega arith)

-- how many rows have each number, and how many have none above it
module _ (column : ℕ) where
  abbrev number : List ℕ → ℕ
  number numbers = get_or numbers column 0

  abbrev pub with_number : List (List ℕ) → ℕ → ℕ
  with_number all value = count_by (λ (numbers : List ℕ). get_or numbers column 0 == value) all

  abbrev under : List (List ℕ) → ℕ → ℕ
  under all value = count_by (λ (numbers : List ℕ). nat_lt (get_or numbers column 0) value) all

  one_none : (n : ℕ) → cond {A = ℕ} (nat_lt n 0) 1 0 ≡ 0
  one_none n = grind (arith, nat_tests)

  none_under : (all : List (List ℕ)) → under all 0 ≡ 0
  none_under [] = refl
  none_under (r ∷ all) =
      omega (
        arith,
        sum_by-cons (λ (numbers : List ℕ). cond (nat_lt (number numbers) 0) 1 0) r all,
        one_none (number r),
        none_under all,
      )

  one_split : (n value : ℕ) → cond {A = ℕ} (nat_lt n (value + 1)) 1 0 ≡ cond (nat_lt n value) 1 0 + cond (n == value) 1 0
  one_split n value = grind (arith, nat_tests)

  split : (all : List (List ℕ)) (value : ℕ) → under all (value + 1) ≡ under all value + with_number all value
  split [] value = refl
  split (r ∷ all) value =
      omega (
        arith,
        sum_by-cons (λ (numbers : List ℕ). cond (nat_lt (number numbers) (value + 1)) 1 0) r all,
        sum_by-cons (λ (numbers : List ℕ). cond (nat_lt (number numbers) value) 1 0) r all,
        sum_by-cons (λ (numbers : List ℕ). cond (number numbers == value) 1 0) r all,
        one_split (number r) value,
        split all value,
      )

  summed : (all : List (List ℕ)) (counts : List ℕ) → ((value : ℕ) → get_or counts value 0 ≡ with_number all value)
      → (value : ℕ) → value ≤ length counts → sum (take value counts) ≡ under all value
  summed all counts are zero within = sym (none_under all)
  summed all counts are (suc value) within =
      let before : sum (take value counts) ≡ under all value = summed all counts are value (omega arith) in
      let here : get_or counts value 0 ≡ with_number all value = are value in
      let more : sum (take (value + 1) counts) ≡ sum (take value counts) + get_or counts value 0 = sum_by_more (λ (n : ℕ). n) counts value 0 (omega arith) in
      let parts : under all (value + 1) ≡ under all value + with_number all value = split all value in
      let next : suc value ≡ value + 1 = omega arith in
      rw next (omega arith)

  under_all : (all : List (List ℕ)) (value : ℕ) → under all value ≤ length all
  under_all all value = count_by-le-length (λ (numbers : List ℕ). nat_lt (number numbers) value) all

  -- a count of rows so far has room for one more
  pub one_more_fits : (all : List (List ℕ)) (k value : ℕ) (counts : List ℕ) → k < length all
      → ((v : ℕ) → get_or counts v 0 ≡ with_number (take k all) v) → get_or counts value 0 + 1 ≤ length all
  one_more_fits all k value counts within are =
      let few : with_number (take k all) value ≤ length (take k all) = count_by-le-length (λ (numbers : List ℕ). number numbers == value) (take k all) in
      omega (arith, are value, length-take {A = List ℕ})

  -- so the sum of all counts is small
  pub few_counted : (all : List (List ℕ)) (counts : List ℕ) → ((value : ℕ) → get_or counts value 0 ≡ with_number all value) → sum counts ≤ length all
  few_counted all counts are =
      let whole : sum (take (length counts) counts) ≡ under all (length counts) = summed all counts are (length counts) (omega arith) in
      let same : sum (take (length counts) counts) ≡ sum counts = ap (λ (l : List ℕ). sum l) (take_all (length counts) counts (omega arith)) in
      omega (arith, under_all all (length counts))

  one_le : (n value : ℕ) → cond {A = ℕ} (nat_le n value) 1 0 ≡ cond (nat_lt n (value + 1)) 1 0
  one_le n value = grind (arith, nat_tests)

  not_above_is : (all : List (List ℕ)) (value : ℕ) → not_above all column value ≡ under all (value + 1)
  not_above_is [] value = refl
  not_above_is (r ∷ all) value =
      omega (
        arith,
        sum_by-cons (λ (numbers : List ℕ). cond (nat_le (number numbers) value) 1 0) r all,
        sum_by-cons (λ (numbers : List ℕ). cond (nat_lt (number numbers) (value + 1)) 1 0) r all,
        one_le (number r) value,
        not_above_is all value,
      )

  one_below : (n value : ℕ) → n ≤ value → cond {A = ℕ} (nat_le n value) 1 0 ≡ 1
  one_below n value below = grind (arith, nat_tests)

  all_below : (all : List (List ℕ)) (value : ℕ) → ((k : ℕ) → k < length all → get_or (get_or all k []) column 0 ≤ value) → not_above all column value ≡ length all
  all_below [] value below = refl
  all_below (r ∷ all) value below =
      omega (
        arith,
        sum_by-cons (λ (numbers : List ℕ). cond (nat_le (number numbers) value) 1 0) r all,
        one_below (number r) value (below 0 (omega arith)),
        all_below all value (λ k within. below (suc k) (omega arith)),
      )

  -- the counts, added up, tell how many rows have no number above each
  pub counts_tell : (all : List (List ℕ)) (counts sums : List ℕ) → ((value : ℕ) → get_or counts value 0 ≡ with_number all value)
      → ((k : ℕ) → k < length all → get_or (get_or all k []) column 0 < length counts)
      → length sums ≡ length counts → ((k : ℕ) → k < length counts → get_or sums k 0 ≡ sum (take (k + 1) counts))
      → TellsNotAbove all column sums
  counts_tell all counts sums are small size added value =
      elim (cases_lt value (length counts)) [
        | inl within ↦
            get_or_default sums value (length all) 0 (omega arith)
            ∙ added value within
            ∙ summed all counts are (value + 1) (omega arith)
            ∙ sym (not_above_is all value)
        | inr past ↦
            get_or-eq_default sums (length all) (omega arith)
            ∙ sym (all_below all value (λ k within. let low : get_or (get_or all k []) column 0 < length counts = small k within in omega arith))
      ]
