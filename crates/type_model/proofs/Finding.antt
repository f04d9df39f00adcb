-- What `find` finds, and where it stands in a list that is in order.
use Rattle.std.proofs.Common.{◌≡◌, ℕ, zero, suc, ◌<◌, ◌≤◌, Bool, true, false, cond, List, [], ◌∷◌, length, get_or, Option, Some, None, refl, sym, ap, ◌∙◌, arith}
use Rattle.std.specs.Prelude.{find, filter, slice_get}
use Rattle.std.specs.List.{All}
use Rattle.std.specs.declared.cmp.Ordering.{Ordering}
use Rattle.std.specs.declared.cmp.Ordering.TheVariants.{Less, Equal, Greater}
use Rattle.std.specs.Ordering.{is_lt, is_eq, ordering_index}
use Rattle.std.specs.List.Sorted.{IsPermutation, IsNonDecreasingBy, IsPartitionedBy, IsPartitionPoint}
use Rattle.std.proofs.lemmas.List.Elements.{All-cons, All-head, All-tail, All-nil}
use Rattle.std.proofs.lemmas.List.Sorted.{All-permutation}

-- what passes a test of what there is
abbrev pub hit : {X : Type 0} → (X → Bool) → Option X → Option X
hit test None = None
hit test (Some x) = cond (test x) (Some x) None

module _ {X : Type 0} (test : X → Bool) where
  found_here : (x : X) (xs : List X) (b : Bool) → test x ≡ b → (b ≡ false → find test xs ≡ None) → cond b (Some x) (find test xs) ≡ cond b (Some x) None
  found_here x xs true e none = refl
  found_here x xs false e none = none refl

  pub find_none : (xs : List X) → All (λ x. test x ≡ false) xs → find test xs ≡ None
  find_none [] fails = refl
  find_none (x ∷ xs) fails =
      let here : test x ≡ false = All-head (λ x. test x ≡ false) x xs fails in
      ap (λ b. cond b (Some x) (find test xs)) here ∙ find_none xs (All-tail (λ x. test x ≡ false) x xs fails)

  -- where all before a place fail the test, and all behind it do if the one there does
  pub find_at :
      (xs : List X) (at : ℕ) → ((k : ℕ) (d : X) → k < at → k < length xs → test (get_or xs k d) ≡ false)
      → ((k : ℕ) (d : X) → at ≤ k → k < length xs → test (get_or xs at d) ≡ false → test (get_or xs k d) ≡ false)
      → find test xs ≡ hit test (slice_get xs at)
  find_at [] at before behind = refl
  find_at (x ∷ xs) zero before behind =
      found_here x xs (test x) refl (λ fails. find_none xs (λ k d within. behind (suc k) d (omega arith) (omega arith) fails))
  find_at (x ∷ xs) (suc at) before behind =
      ap (λ b. cond b (Some x) (find test xs)) (before 0 x (omega arith) (omega arith))
      ∙ find_at xs at (λ k d less within. before (suc k) d (omega arith) (omega arith)) (λ k d least within. behind (suc k) d (omega arith) (omega arith))

  first_of : (x : X) (xs : List X) (b : Bool) → find test xs ≡ slice_get (filter test xs) 0
      → cond b (Some x) (find test xs) ≡ slice_get (cond b (x ∷ filter test xs) (filter test xs)) 0
  first_of x xs true rest = refl
  first_of x xs false rest = rest

  -- it is the first that passes
  pub find_first : (xs : List X) → find test xs ≡ slice_get (filter test xs) 0
  find_first [] = refl
  find_first (x ∷ xs) = first_of x xs (test x) (find_first xs)

  passes_if : (x y : X) (xs : List X) (b : Bool) → test y ≡ b → cond b (Some y) (find test xs) ≡ Some x
      → (find test xs ≡ Some x → test x ≡ true) → test x ≡ true
  passes_if x y xs true here is rest = cc
  passes_if x y xs false here is rest = rest is

  pub found_passes : (xs : List X) (x : X) → find test xs ≡ Some x → test x ≡ true
  found_passes [] x is = cc
  found_passes (y ∷ xs) x is = passes_if x y xs (test y) refl is (found_passes xs x)

  fails_if : (y : X) (xs : List X) (b : Bool) → test y ≡ b → cond b (Some y) (find test xs) ≡ None
      → (find test xs ≡ None → All (λ x. test x ≡ false) xs) → All (λ x. test x ≡ false) (y ∷ xs)
  fails_if y xs true here is rest = cc
  fails_if y xs false here is rest = All-cons (λ x. test x ≡ false) y xs here (rest is)

  pub none_passes : (xs : List X) → find test xs ≡ None → All (λ x. test x ≡ false) xs
  none_passes [] is = All-nil (λ x. test x ≡ false)
  none_passes (y ∷ xs) is = fails_if y xs (test y) refl is (none_passes xs)

  module _ (xs ys : List X) (same : (x : X) → test x ≡ true → filter test ys ≡ filter test xs) (moves : IsPermutation xs ys) where
    same_by : (found : Option X) → find test xs ≡ found → find test ys ≡ find test xs
    same_by (Some x) is = find_first ys ∙ ap (λ l. slice_get l 0) (same x (found_passes xs x is)) ∙ sym (find_first xs)
    same_by None is = find_none ys (All-permutation (λ x. test x ≡ false) xs ys moves (none_passes xs is)) ∙ sym is

    -- in a list in another order, in which those that pass keep their order, the same is found
    pub same_found : find test ys ≡ find test xs
    same_found = same_by (find test xs) refl

less_not_equal : (o : Ordering) → is_lt o ≡ true → is_eq o ≡ false
less_not_equal Less less = refl
less_not_equal Equal less = cc
less_not_equal Greater less = refl

above_not_equal : (a b : Ordering) → ordering_index a ≤ ordering_index b → is_lt a ≡ false → is_eq a ≡ false → is_eq b ≡ false
above_not_equal Less b order less equal = cc
above_not_equal Equal b order less equal = cc
above_not_equal Greater Less order less equal = refl
above_not_equal Greater Equal order less equal = absurd (omega arith)
above_not_equal Greater Greater order less equal = refl

less_before : (a b : Ordering) → ordering_index a ≤ ordering_index b → is_lt b ≡ true → is_lt a ≡ true
less_before Less b order less = refl
less_before Equal Less order less = absurd (omega arith)
less_before Equal Equal order less = less
less_before Equal Greater order less = less
less_before Greater Less order less = absurd (omega arith)
less_before Greater Equal order less = less
less_before Greater Greater order less = cc

-- a list in order, seen by how each element compares with what is looked for
module _ {X : Type 0} (ord : X → Ordering) (xs : List X) (rises : IsNonDecreasingBy (λ x. ordering_index (ord x)) xs) where
  pub parted : IsPartitionedBy (λ x. is_lt (ord x)) xs
  parted i j d order within less = less_before (ord (get_or xs i d)) (ord (get_or xs j d)) (rises i j d order within) less

  -- the first that is not less is the first that is equal, if there is one
  pub find_equal : (at : ℕ) → IsPartitionPoint (λ x. is_lt (ord x) ≡ true) (λ x. is_lt (ord x) ≡ false) xs at
      → find (λ x. is_eq (ord x)) xs ≡ hit (λ x. is_eq (ord x)) (slice_get xs at)
  find_equal at point =
      find_at (λ x. is_eq (ord x)) xs at
      (λ k d less within. less_not_equal (ord (get_or xs k d)) (point.0 k d (omega arith) less))
      (λ k d least within fails.
      above_not_equal (ord (get_or xs at d)) (ord (get_or xs k d)) (rises at k d least within) (point.1 at d (omega arith) (omega arith)) fails)
