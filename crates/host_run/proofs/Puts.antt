-- Texts that are put one after another, and fronts of them.
use Rattle.std.proofs.Common.{◌≡◌, refl, sym, ap, ◌∙◌, ℕ, zero, suc, ◌+◌, List, [], ◌∷◌, ◌++◌, take, drop, Option, Some, None, Result, Ok, Err, append_assoc, add-one}
use Rattle.std.specs.Prelude.{⊤, slice_get}
use Rattle.std.specs.List.{flat_map}
use Rattle.std.proofs.lemmas.List.Concat.{flat_map-append}
use Rattle.bound_base.specs.Outside.{appended, AppendsFront}
use Rattle.bound_base.specs.declared.put.PutError.{PutError}
use Rattle.bound_base.specs.Put.{Puts}

pub append-nil : (xs : List ℕ) → xs ++ [] ≡ xs
append-nil [] = refl
append-nil (x ∷ xs) = ap (λ ys. x ∷ ys) (append-nil xs)

pub appended-append : (t : Option (List ℕ)) (a b : List ℕ) → appended (appended t a) b ≡ appended t (a ++ b)
appended-append None a b = refl
appended-append (Some x) a b = ap (λ (y : List ℕ). Some y) (append_assoc x a b)

pub appended-nil : (t : Option (List ℕ)) → appended t [] ≡ t
appended-nil None = refl
appended-nil (Some x) = ap (λ (y : List ℕ). Some y) (append-nil x)

-- a front of the first text is a front of both
pub front-append : (t u : Option (List ℕ)) (a b : List ℕ) → AppendsFront t u a → AppendsFront t u (a ++ b)
front-append t u a b h = (h.0, h.1 ++ b, ap (λ x. x ++ b) h.2 ∙ append_assoc h.0 h.1 b, h.3)

-- behind the first text, a front of the second
pub front-after : (s t u : Option (List ℕ)) (a b : List ℕ) → t ≡ appended s a → AppendsFront t u b → AppendsFront s u (a ++ b)
front-after s t u a b e h =
    (a ++ h.0, h.1, ap (λ x. a ++ x) h.2 ∙ sym (append_assoc a h.0 h.1), h.3 ∙ ap (λ x. appended x h.0) e ∙ appended-append s a h.0)

-- nothing was put
pub front-none : (t u : Option (List ℕ)) (a : List ℕ) → u ≡ t → AppendsFront t u a
front-none t u a e = ([], a, refl, e ∙ sym (appended-nil t))

-- two texts, one after the other
pub puts-after : (s t u : Option (List ℕ)) (a b : List ℕ) (r : Result ⊤ PutError) → t ≡ appended s a → Puts b r t u → Puts (a ++ b) r s u
puts-after s t u a b (Ok x) e h = h ∙ ap (λ x. appended x b) e ∙ appended-append s a b
puts-after s t u a b (Err x) e h = front-after s t u a b e h

-- an element of a list with what stands before and behind it
pub splits-at : {X : Type 0} (xs : List X) (n : ℕ) (x : X) → slice_get xs n ≡ Some x → xs ≡ take n xs ++ x ∷ drop (suc n) xs
splits-at [] n x e = cc
splits-at (y ∷ ys) zero x e = let p : y ≡ x = cc in ap (λ z. z ∷ ys) p
splits-at (y ∷ ys) (suc n) x e = ap (λ zs. y ∷ zs) (splits-at ys n x e)

pub take-suc-at : {X : Type 0} (xs : List X) (n : ℕ) (x : X) → slice_get xs n ≡ Some x → take (suc n) xs ≡ take n xs ++ x ∷ []
take-suc-at [] n x e = cc
take-suc-at (y ∷ ys) zero x e = let p : y ≡ x = cc in ap (λ z. z ∷ []) p
take-suc-at (y ∷ ys) (suc n) x e = ap (λ zs. y ∷ zs) (take-suc-at ys n x e)

pub take-suc-past : {X : Type 0} (xs : List X) (n : ℕ) → slice_get xs n ≡ None → take (suc n) xs ≡ take n xs
take-suc-past [] zero e = refl
take-suc-past [] (suc n) e = refl
take-suc-past (y ∷ ys) zero e = cc
take-suc-past (y ∷ ys) (suc n) e = ap (λ zs. y ∷ zs) (take-suc-past ys n e)

-- the texts of a list up to an element, that of the element, and the rest
pub texts-split : {X : Type 0} (f : X → List ℕ) (xs : List X) (n : ℕ) (x : X) → slice_get xs n ≡ Some x
    → flat_map f xs ≡ flat_map f (take n xs) ++ (f x ++ flat_map f (drop (suc n) xs))
texts-split f xs n x e = ap (flat_map f) (splits-at xs n x e) ∙ flat_map-append f (take n xs) (x ∷ drop (suc n) xs)

pub texts-more : {X : Type 0} (f : X → List ℕ) (xs : List X) (n : ℕ) (x : X) → slice_get xs n ≡ Some x
    → flat_map f (take (suc n) xs) ≡ flat_map f (take n xs) ++ f x
texts-more f xs n x e =
    ap (flat_map f) (take-suc-at xs n x e) ∙ flat_map-append f (take n xs) (x ∷ []) ∙ ap (λ y. flat_map f (take n xs) ++ y) (append-nil (f x))

-- one more line is put
pub lines-more : {X : Type 0} (f : X → List ℕ) (s t u : Option (List ℕ)) (xs : List X) (n : ℕ) (x : X) → t ≡ appended s (flat_map f (take n xs))
    → slice_get xs n ≡ Some x → u ≡ appended t (f x) → u ≡ appended s (flat_map f (take (n + 1) xs))
lines-more f s t u xs n x before at put =
    put ∙ ap (λ o. appended o (f x)) before ∙ appended-append s (flat_map f (take n xs)) (f x)
    ∙ ap (appended s) (sym (ap (λ k. flat_map f (take k xs)) (add-one n) ∙ texts-more f xs n x at))

-- past the last element there is no more line
pub lines-past : {X : Type 0} (f : X → List ℕ) (s t : Option (List ℕ)) (xs : List X) (n : ℕ) → t ≡ appended s (flat_map f (take n xs))
    → slice_get xs n ≡ None → t ≡ appended s (flat_map f (take (n + 1) xs))
lines-past f s t xs n before at =
    before ∙ ap (λ ys. appended s (flat_map f ys)) (sym (ap (λ k. take k xs) (add-one n) ∙ take-suc-past xs n at))
