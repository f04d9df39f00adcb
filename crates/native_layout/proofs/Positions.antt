-- Lemmas on the first place at which a test passes.
use Rattle.std.proofs.Common.{◌≡◌, ℕ, ◌<◌, Bool, true, false, nat_lt, List, length, get_or, Option, Some, None, is_none, arith, refl, ◌∙◌, ap}
use Rattle.std.proofs.lemmas.Bool.Decides.{nat_tests}
use Rattle.std.proofs.lemmas.List.Sums.{position_or_len_is}
use Rattle.std.proofs.lemmas.List.FromFn.{length-map-range_with_len, get_or-map-range_with_len}
use Rattle.std.specs.List.{position, position_or_len}
use Rattle.native_layout.specs.Struct.{offset_at, written}

pub position_at : {X : Type 0} (p : X → Bool) (xs : List X) (i : ℕ) (d : X) → i < length xs
    → ((j : ℕ) → j < i → p (get_or xs j d) ≡ false) → p (get_or xs i d) ≡ true → position p xs ≡ Some i
position_at p xs i d within before here =
    let is : position_or_len p xs ≡ i = position_or_len_is p xs i d (omega arith) before (λ _. here) in
    let below : nat_lt i (length xs) ≡ true = grind (arith, nat_tests) in
    rw (is, below) refl

pub position_none : {X : Type 0} (p : X → Bool) (xs : List X) (d : X)
    → ((j : ℕ) → j < length xs → p (get_or xs j d) ≡ false) → position p xs ≡ None
position_none p xs d before =
    let is : position_or_len p xs ≡ length xs = position_or_len_is p xs (length xs) d (omega arith) before (λ h. absurd (omega arith)) in
    let below : nat_lt (length xs) (length xs) ≡ false = grind (arith, nat_tests) in
    rw (is, below) refl

pub missing_at : (offsets : List (Option ℕ)) (n k : ℕ) → k < n → ((j : ℕ) → j < k → is_none (offset_at offsets j) ≡ false)
    → is_none (offset_at offsets k) ≡ true → position is_none (written offsets n) ≡ Some k
missing_at offsets n k within before here =
    position_at is_none (written offsets n) k None (omega (arith, length-map-range_with_len (offset_at offsets) 0 n))
    (λ j h. ap is_none (get_or-map-range_with_len (offset_at offsets) 0 n j j None (omega arith) (omega arith)) ∙ before j h)
    (ap is_none (get_or-map-range_with_len (offset_at offsets) 0 n k k None within (omega arith)) ∙ here)

pub missing_none : (offsets : List (Option ℕ)) (n : ℕ) → ((j : ℕ) → j < n → is_none (offset_at offsets j) ≡ false)
    → position is_none (written offsets n) ≡ None
missing_none offsets n each =
    position_none is_none (written offsets n) None (λ j h.
    let below : j < n = omega (arith, length-map-range_with_len (offset_at offsets) 0 n) in
    ap is_none (get_or-map-range_with_len (offset_at offsets) 0 n j j None below (omega arith)) ∙ each j below)
