-- The first element that passes a test of its view.
use Rattle.std.proofs.Common.{◌≡◌, ℕ, ◌<◌, Bool, true, false, cond, List, [], ◌∷◌, length, get_or, map, find, Option, Some, None, option_map, refl, arith}
use Rattle.std.specs.List.{position_or_len}
use Rattle.std.proofs.lemmas.List.Folds.{find_at}
use Rattle.std.proofs.lemmas.List.Sums.{position_or_len_is}
use Rattle.std.proofs.lemmas.Option.{slice_get-get_or, slice_get_past}

chosen : {A B : Type 0} (f : A → B) (x : A) (b : Bool) (o : Option A) (p : Option B) → option_map f o ≡ p → option_map f (cond b (Some x) o) ≡ cond b (Some (f x)) p
chosen f x true o p e = refl
chosen f x false o p e = e

pub find_mapped : {A B : Type 0} (p : B → Bool) (f : A → B) (xs : List A) → option_map f (find (λ x. p (f x)) xs) ≡ find p (map f xs)
find_mapped p f [] = refl
find_mapped p f (x ∷ xs) = chosen f x (p (f x)) _ _ (find_mapped p f xs)

-- the element at a place, where none before it passes
pub find_there : {A : Type 0} (p : A → Bool) (xs : List A) (i : ℕ) (d : A) → i < length xs → p (get_or xs i d) ≡ true → ((k : ℕ) → k < i → p (get_or xs k d) ≡ false) → find p xs ≡ Some (get_or xs i d)
find_there p xs i d h passes before =
    let here : position_or_len p xs ≡ i = position_or_len_is p xs i d (omega arith) before (λ _. passes) in
    rw (find_at p xs, here) (slice_get-get_or xs i d h)

pub find_none : {A : Type 0} (p : A → Bool) (xs : List A) → ((k : ℕ) (d : A) → k < length xs → p (get_or xs k d) ≡ false) → find p xs ≡ None
find_none p [] before = refl
find_none p (x ∷ xs) before =
    let here : position_or_len p (x ∷ xs) ≡ length (x ∷ xs) = position_or_len_is p (x ∷ xs) (length (x ∷ xs)) x (omega arith) (λ k h. before k x h) (λ h. absurd (omega arith)) in
    rw (find_at p (x ∷ xs), here) (slice_get_past (x ∷ xs) (length (x ∷ xs)) (omega arith))
