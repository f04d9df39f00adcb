-- Places in lists that are put together base first.
use Rattle.std.proofs.Common.{◌≡◌, ℕ, zero, suc, ◌+◌, ◌<◌, List, [], ◌∷◌, ◌++◌, length, slice_get, refl, ap, ◌∙◌, arith}
use Rattle.std.specs.Prelude.{reverse}
use Rattle.std.specs.List.{flat_map}
use Rattle.std.proofs.lemmas.Grind.{flat_map-append}
use Rattle.std.proofs.lemmas.List.{append-nil, reverse-append}

get_left : {B : Type 0} (ys zs : List B) (k : ℕ) → k < length ys → slice_get (ys ++ zs) k ≡ slice_get ys k
get_left [] zs k within = absurd (omega (arith, within))
get_left (y ∷ ys) zs zero within = refl
get_left (y ∷ ys) zs (suc k) within = get_left ys zs k (omega (arith, within))

get_right : {B : Type 0} (ys zs : List B) (k : ℕ) → slice_get (ys ++ zs) (length ys + k) ≡ slice_get zs k
get_right [] zs k = let same : 0 + k ≡ k = omega arith in ap (slice_get zs) same
get_right (y ∷ ys) zs k =
    let next : suc (length ys) + k ≡ suc (length ys + k) = omega arith in
    ap (slice_get (y ∷ (ys ++ zs))) next ∙ get_right ys zs k

module _ {A B : Type 0} (f : A → List B) (x : A) (xs : List A) where
  last_part : flat_map f (reverse xs ++ x ∷ []) ≡ flat_map f (reverse xs) ++ f x
  last_part = flat_map-append f (reverse xs) (x ∷ []) ∙ ap (λ (ys : List B). flat_map f (reverse xs) ++ ys) (append-nil (f x))

  pub base_first : flat_map f (reverse (x ∷ xs)) ≡ flat_map f (reverse xs) ++ f x
  base_first = ap (flat_map f) (reverse-append (x ∷ []) xs) ∙ last_part

  -- a place among those of the bases, and one after them
  pub at_base : (k : ℕ) → k < length (flat_map f (reverse xs)) → slice_get (flat_map f (reverse (x ∷ xs))) k ≡ slice_get (flat_map f (reverse xs)) k
  at_base k within =
      ap (λ (ys : List B). slice_get ys k) base_first ∙ get_left (flat_map f (reverse xs)) (f x) k within

  pub at_own : (k : ℕ) → slice_get (flat_map f (reverse (x ∷ xs))) (length (flat_map f (reverse xs)) + k) ≡ slice_get (f x) k
  at_own k =
      ap (λ (ys : List B). slice_get ys (length (flat_map f (reverse xs)) + k)) base_first
      ∙ get_right (flat_map f (reverse xs)) (f x) k
