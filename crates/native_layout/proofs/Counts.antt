-- Lemmas on counts.
use Rattle.std.proofs.Common.{◌≡◌, ℕ, zero, suc, ◌+◌, ◌-◌, ◌≤◌, ◌<◌, Bool, true, false, ◌&&◌, cond, nat_lt, nat_le, List, [], ◌∷◌, map, filter, length, get_or, arith, inl, inr, ◌⊎◌, refl, sym, ◌∙◌, ap}
use Rattle.std.proofs.lemmas.Bool.Decides.{nat_tests}
use Rattle.std.proofs.lemmas.List.Sums.{sum_by-cons}
use Rattle.std.proofs.lemmas.List.Sorted.{sum_by-IsPermutation}
use Rattle.std.specs.List.{count_by}
use Rattle.std.specs.List.Sorted.{IsPartitionPoint, IsPermutation}
use Rattle.native_layout.specs.declared.extent.Range.{Range}
use Rattle.native_layout.specs.Struct.{share_a_byte, overlaps_another}
use Rattle.native_layout.specs.Placed.{AreSorted, is_filled}

pub decided : (b : Bool) → (b ≡ true) ⊎ (b ≡ false)
decided true = inl refl
decided false = inr refl

pub count_by-cons : {X : Type 0} (p : X → Bool) (x : X) (xs : List X) → count_by p (x ∷ xs) ≡ cond (p x) 1 0 + count_by p xs
count_by-cons p x xs = sum_by-cons (λ y. cond (p y) 1 0) x xs

-- a split point counts what is before it
pub count_by-split : {X : Type 0} (p : X → Bool) (xs : List X) (i : ℕ) → i ≤ length xs
    → ((k : ℕ) (d : X) → k < i → p (get_or xs k d) ≡ true)
    → ((k : ℕ) (d : X) → i ≤ k → k < length xs → p (get_or xs k d) ≡ false) → count_by p xs ≡ i
count_by-split p [] i within front back = omega arith
count_by-split p (x ∷ xs) zero within front back =
    let here : p x ≡ false = back 0 x (omega arith) (omega arith) in
    let rest : count_by p xs ≡ 0 = count_by-split p xs zero (omega arith) (λ k d h. absurd (omega arith)) (λ k d h below. back (suc k) d (omega arith) (omega arith)) in
    count_by-cons p x xs ∙ rw here (omega (arith, rest))
count_by-split p (x ∷ xs) (suc i) within front back =
    let here : p x ≡ true = front 0 x (omega arith) in
    let rest : count_by p xs ≡ i = count_by-split p xs i (omega arith) (λ k d h. front (suc k) d (omega arith)) (λ k d h below. back (suc k) d (omega arith) (omega arith)) in
    count_by-cons p x xs ∙ rw here (omega (arith, rest))

pub count_by-partitioned : {X : Type 0} (p : X → Bool) (xs : List X) (i : ℕ) → i ≤ length xs → IsPartitionPoint (λ y. p y ≡ true) (λ y. p y ≡ false) xs i → i ≡ count_by p xs
count_by-partitioned p xs i within point =
    sym (count_by-split p xs i within (λ k d h. point.0 k d (omega arith) h) (λ k d h below. point.1 k d h below))

-- what a chain that filters and maps has
pub count_by-mapped : {X : Type 0} (f : X → Bool) (number : X → ℕ) (p : ℕ → Bool) (xs : List X)
    → count_by p (map number (filter f xs)) ≡ count_by (λ x. f x && p (number x)) xs
count_by-mapped f number p [] = refl
count_by-mapped f number p (x ∷ xs) =
    let step : count_by p (map number (cond (f x) (x ∷ filter f xs) (filter f xs)))
    ≡ cond (f x && p (number x)) 1 0 + count_by (λ y. f y && p (number y)) xs =
    elim (f x) as (λ b. count_by p (map number (cond b (x ∷ filter f xs) (filter f xs)))
    ≡ cond (b && p (number x)) 1 0 + count_by (λ y. f y && p (number y)) xs) [
      | true ↦ count_by-cons p (number x) (map number (filter f xs)) ∙ ap (λ n. cond (p (number x)) 1 0 + n) (count_by-mapped f number p xs)
      | false ↦ count_by-mapped f number p xs ∙ omega arith
    ] in
    step ∙ sym (count_by-cons (λ y. f y && p (number y)) x xs)

-- those that share a byte with a field are those that start before its end, less those that end by its start
pub count_shared_one : (r x : Range) → r.start < r.end
    → cond (share_a_byte r x) 1 0 + cond (is_filled x && nat_le x.end r.start) 1 0 ≡ cond (is_filled x && nat_le x.start (r.end - 1)) 1 0
count_shared_one r x filled = grind (arith, nat_tests)

pub count_shared : (r : Range) (xs : List Range) → r.start < r.end
    → count_by (share_a_byte r) xs + count_by (λ x. is_filled x && nat_le x.end r.start) xs ≡ count_by (λ x. is_filled x && nat_le x.start (r.end - 1)) xs
count_shared r [] filled = refl
count_shared r (x ∷ xs) filled =
    omega (
      arith,
      count_shared_one r x filled,
      count_shared r xs filled,
      count_by-cons (share_a_byte r) x xs,
      count_by-cons (λ y. is_filled y && nat_le y.end r.start) x xs,
      count_by-cons (λ y. is_filled y && nat_le y.start (r.end - 1)) x xs,
    )

-- a field without bytes shares none
pub share_none : (r : Range) (xs : List Range) → r.end ≤ r.start → count_by (share_a_byte r) xs ≡ 0
share_none r [] empty = refl
share_none r (x ∷ xs) empty =
    let here : share_a_byte r x ≡ false = grind (arith, nat_tests) in
    count_by-cons (share_a_byte r) x xs ∙ rw here (omega (arith, share_none r xs empty))

-- sorting keeps counts
pub count_by-sorted : (p : ℕ → Bool) (xs ys : List ℕ) → IsPermutation xs ys → count_by p ys ≡ count_by p xs
count_by-sorted p xs ys moved = sum_by-IsPermutation (λ x. cond (p x) 1 0) xs ys moved

pub count_by-sorted_numbers : (number : Range → ℕ) (p : ℕ → Bool) (rs : List Range) (xs ys : List ℕ)
    → xs ≡ map number (filter is_filled rs) → IsPermutation xs ys → count_by p ys ≡ count_by (λ r. is_filled r && p (number r)) rs
count_by-sorted_numbers number p rs xs ys are moved =
    count_by-sorted p xs ys moved ∙ (ap (count_by p) are ∙ count_by-mapped is_filled number p rs)

pub lt_shifted : (m a b : ℕ) → m + a ≡ b → nat_lt (a + 1) b ≡ nat_lt 1 m
lt_shifted m a b is = grind (arith, nat_tests)

-- the test over sorted starts and ends is the definition's
pub overlaps_by_sorted : (rs : List Range) (starts ends : List ℕ) → AreSorted (λ r. r.start) rs starts → AreSorted (λ r. r.end) rs ends
    → (r : Range) → (nat_lt r.start r.end && nat_lt (count_by (λ x. nat_le x r.start) ends + 1) (count_by (λ x. nat_le x (r.end - 1)) starts)) ≡ overlaps_another rs r
overlaps_by_sorted rs starts ends at_starts at_ends r = elim (decided (nat_lt r.start r.end)) [
  | inl less ↦
      let below : r.start < r.end = grind (arith, nat_tests) in
      let ended : count_by (λ x. nat_le x r.start) ends ≡ count_by (λ x. is_filled x && nat_le x.end r.start) rs = at_ends.counts (λ x. nat_le x r.start) in
      let begun : count_by (λ x. nat_le x (r.end - 1)) starts ≡ count_by (λ x. is_filled x && nat_le x.start (r.end - 1)) rs = at_starts.counts (λ x. nat_le x (r.end - 1)) in
      let sums : count_by (share_a_byte r) rs + count_by (λ x. nat_le x r.start) ends ≡ count_by (λ x. nat_le x (r.end - 1)) starts = omega (arith, count_shared r rs below, ended, begun) in
      rw less (lt_shifted _ _ _ sums)
  | inr apart ↦
      let above : r.end ≤ r.start = grind (arith, nat_tests) in
      rw (apart, share_none r rs above) refl
]
