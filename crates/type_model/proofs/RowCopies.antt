-- Copies of rows and tables.
use Rattle.std.proofs.Common.{◌≡◌, ℕ, zero, suc, ◌+◌, ◌<◌, List, [], ◌∷◌, ◌++◌, length, map, take, slice_get, Some, None, refl, sym, ap, ◌∙◌, arith, add-one}
use Rattle.std.specs.List.{range_with_len}
use Rattle.std.proofs.lemmas.List.FromFn.{map-range_with_len_more}
use Rattle.byte_view.specs.Metadata.{Metadata, row_of, table_of}

pub range_more : {X : Type 0} (f : ℕ → X) (n : ℕ) → map f (range_with_len 0 (n + 1)) ≡ map f (range_with_len 0 n) ++ f n ∷ []
range_more f n = map-range_with_len_more f 0 n n (omega arith)

take_get : {A : Type 0} (xs : List A) (n : ℕ) (x : A) → slice_get xs n ≡ Some x → take (suc n) xs ≡ take n xs ++ x ∷ []
take_get [] n x e = absurd (cc)
take_get (y ∷ xs) zero x e = cc
take_get (y ∷ xs) (suc n) x e = ap (λ zs. y ∷ zs) (take_get xs n x e)

get_none : {A : Type 0} (xs : List A) (n : ℕ) → None ≡ slice_get xs n → n < length xs → ⊥
get_none [] n e l = absurd (omega arith)
get_none (y ∷ xs) zero e l = absurd (cc)
get_none (y ∷ xs) (suc n) e l = get_none xs n e (omega arith)

row_is : (m : Metadata) (table n : ℕ) → row_of m table (n + 1) ≡ slice_get (table_of m table) n
row_is m table n = rw add-one refl

-- one more row
pub row_next : (m : Metadata) (table n : ℕ) (row : List ℕ) → Some row ≡ row_of m table (n + 1) → take (n + 1) (table_of m table) ≡ take n (table_of m table) ++ row ∷ []
row_next m table n row e = let h : slice_get (table_of m table) n ≡ Some row = sym (row_is m table n) ∙ sym e in rw add-one (take_get (table_of m table) n row h)

-- a row below the count is there
pub row_there : (m : Metadata) (table n : ℕ) → None ≡ row_of m table (n + 1) → n < length (table_of m table) → ⊥
row_there m table n e l = get_none (table_of m table) n (e ∙ row_is m table n) l

pub take_whole : {A : Type 0} (xs : List A) (n : ℕ) → n ≡ length xs → take n xs ≡ xs
take_whole [] zero e = refl
take_whole [] (suc n) e = refl
take_whole (x ∷ xs) zero e = absurd (omega arith)
take_whole (x ∷ xs) (suc n) e = ap (λ ys. x ∷ ys) (take_whole xs n (omega arith))
