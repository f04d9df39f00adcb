-- The value of a row among those of all rows.
use Rattle.std.proofs.Common.{◌≡◌, ℕ, List, [], ◌∷◌, zero, suc, map, slice_get, Option, option_and_then, refl}

pub joined : {A B : Type 0} (f : A → Option B) (xs : List A) (k : ℕ) → option_and_then (λ (x : Option B). x) (slice_get (map f xs) k) ≡ option_and_then f (slice_get xs k)
joined f [] k = refl
joined f (x ∷ xs) zero = refl
joined f (x ∷ xs) (suc k) = joined f xs k
