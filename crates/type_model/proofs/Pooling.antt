-- Values of blobs that rows share.
use Rattle.std.proofs.Common.{◌≡◌, ◌≢◌, ℕ, zero, suc, ◌+◌, ◌-◌, ◌<◌, ◌≤◌, ◌⊎◌, inl, inr, List, [], ◌∷◌, ◌++◌, length, map, take, get_or, set, slice_get, Option, Some, None, refl, sym, ap, ap₂, subst, ◌∙◌, arith}
use Rattle.std.specs.Prelude.{option_and_then, slice_index_or, slice_index, replicate}
use Rattle.std.proofs.lemmas.Bool.{cases_lt, cases_eq}
use Rattle.std.proofs.lemmas.List.{get_or-replicate, length-replicate, length-set, get_or-set_same, get_or-set_other}
use Rattle.std.proofs.Math.ListN.{get_or-eq_default}
use Rattle.std.proofs.lemmas.List.{take_more, map-append}
use Rattle.type_model.specs.Pool.{pooled, IsShared, Knows, Keeps}

the_value : {A : Type 0} (values : List (Option A)) (place : ℕ) (value : Option A) → slice_get values place ≡ Some value → slice_index_or values place None ≡ value
the_value [] place value e = absurd (cc)
the_value (x ∷ xs) zero value e = cc
the_value (x ∷ xs) (suc place) value e = the_value xs place value e

no_such : {A : Type 0} (values : List (Option A)) (place : ℕ) → slice_get values place ≡ None → slice_index_or values place None ≡ None
no_such [] place e = refl
no_such (x ∷ xs) zero e = absurd (cc)
no_such (x ∷ xs) (suc place) e = no_such xs place e

row_of : {A : Type 0} (places : List ℕ) (values : List (Option A)) (n place : ℕ) → slice_get places n ≡ Some place
    → slice_get (pooled places values) n ≡ Some (slice_index_or values place None)
row_of [] values n place e = absurd (cc)
row_of (p ∷ ps) values zero place e = let same : p ≡ place = cc in rw same refl
row_of (p ∷ ps) values (suc n) place e = row_of ps values n place e

none_of : {A : Type 0} (places : List ℕ) (values : List (Option A)) (n : ℕ) → slice_get places n ≡ None → slice_get (pooled places values) n ≡ None
none_of [] values n e = refl
none_of (p ∷ ps) values zero e = absurd (cc)
none_of (p ∷ ps) values (suc n) e = none_of ps values n e

module _ {A : Type 0} (places : List ℕ) (values : List (Option A)) (n : ℕ) where
  pub no_row : slice_get places n ≡ None → option_and_then (λ (value : Option A). value) (slice_get (pooled places values) n) ≡ None
  no_row e = ap (option_and_then (λ (value : Option A). value)) (none_of places values n e)

  pub no_value : (place : ℕ) → slice_get places n ≡ Some place → slice_get values place ≡ None
      → option_and_then (λ (value : Option A). value) (slice_get (pooled places values) n) ≡ None
  no_value place e none = ap (option_and_then (λ (value : Option A). value)) (row_of places values n place e) ∙ no_such values place none

  pub value_at : (place : ℕ) (value : Option A) → slice_get places n ≡ Some place → slice_get values place ≡ Some value
      → option_and_then (λ (value : Option A). value) (slice_get (pooled places values) n) ≡ value
  value_at place value e some = ap (option_and_then (λ (value : Option A). value)) (row_of places values n place e) ∙ the_value values place value some

-- values of shared offsets are values of the rows
of_offset : {A : Type 0} (f : ℕ → Option A) (offsets : List ℕ) (place : ℕ)
    → slice_index_or (map f offsets) place None ≡ option_and_then f (slice_get offsets place)
of_offset f [] place = refl
of_offset f (o ∷ os) zero = refl
of_offset f (o ∷ os) (suc place) = of_offset f os place

pub values_shared : {A X : Type 0} (f : ℕ → Option A) (column : X → ℕ) (offsets places : List ℕ) (rows : List X)
    → map (slice_get offsets) places ≡ map (λ (r : X). Some (column r)) rows
    → pooled places (map f offsets) ≡ map (λ (r : X). f (column r)) rows
values_shared {A = A} {X = X} f column offsets [] [] e = refl
values_shared {A = A} {X = X} f column offsets [] (r ∷ rs) e = absurd (cc)
values_shared {A = A} {X = X} f column offsets (p ∷ ps) [] e = absurd (cc)
values_shared {A = A} {X = X} f column offsets (p ∷ ps) (r ∷ rs) e =
    let here : slice_get offsets p ≡ Some (column r) = cc in
    let more : map (slice_get offsets) ps ≡ map (λ (r : X). Some (column r)) rs = cc in
    let rest = values_shared f column offsets ps rs more in
    let first : slice_index_or (map f offsets) p None ≡ f (column r) = of_offset f offsets p ∙ ap (option_and_then f) here in
    cc (first, rest)

pub kept : {X : Type 0} (column : X → ℕ) (old new places : List ℕ) (rows : List X) → Keeps old new
    → map (slice_get old) places ≡ map (λ (r : X). Some (column r)) rows
    → map (slice_get new) places ≡ map (λ (r : X). Some (column r)) rows
kept {X = X} column old new [] [] keeps e = refl
kept {X = X} column old new [] (r ∷ rs) keeps e = absurd (cc)
kept {X = X} column old new (p ∷ ps) [] keeps e = absurd (cc)
kept {X = X} column old new (p ∷ ps) (r ∷ rs) keeps e =
    let here : slice_get old p ≡ Some (column r) = cc in
    let more : map (slice_get old) ps ≡ map (λ (r : X). Some (column r)) rs = cc in
    let rest = kept column old new ps rs keeps more in
    let first : slice_get new p ≡ Some (column r) = keeps p (column r) here in
    cc (first, rest)

pub knows_nothing : (n : ℕ) (offsets : List ℕ) → Knows (replicate n 0) offsets
knows_nothing n offsets at some = absurd (some (nothing (cases_lt at n)))
  where
    nothing : (at < n) ⊎ (n ≤ at) → slice_index (replicate n 0) at ≡ 0
    nothing (inl below) = get_or-replicate n at 0 0 below
    nothing (inr past) = get_or-eq_default (replicate n 0) 0 (omega (arith, length-replicate {A = ℕ}))

get_old : (xs : List ℕ) (x y : ℕ) (k : ℕ) → slice_get xs k ≡ Some y → slice_get (xs ++ x ∷ []) k ≡ Some y
get_old [] x y k e = absurd (cc)
get_old (z ∷ xs) x y zero e = e
get_old (z ∷ xs) x y (suc k) e = get_old xs x y k e

get_new : (xs : List ℕ) (x : ℕ) → slice_get (xs ++ x ∷ []) (length xs) ≡ Some x
get_new [] x = refl
get_new (z ∷ xs) x = get_new xs x

-- an offset that is added stands at the end, and the table may say so
module _ (known offsets : List ℕ) (at : ℕ) where
  pub all_kept : Keeps offsets (offsets ++ at ∷ [])
  all_kept place other e = get_old offsets at other place e

  pub at_end : slice_get (offsets ++ at ∷ []) (length offsets) ≡ Some at
  at_end = get_new offsets at

  pub knows_more : Knows known offsets → Knows (set known at (length offsets + 1)) (offsets ++ at ∷ [])
  knows_more knows other some =
      elim (cases_eq other at) [
        | inl same ↦ here (cases_lt at (length known)) same some
        | inr else ↦
            let old : get_or (set known at (length offsets + 1)) other 0 ≡ get_or known other 0 = get_or-set_other known at other (length offsets + 1) 0 else in
            subst (λ (number : ℕ). slice_get (offsets ++ at ∷ []) (number - 1) ≡ Some other) (sym old)
            (get_old offsets at other (get_or known other 0 - 1) (knows other (λ none. some (old ∙ none))))
      ]
    where
      here : (at < length known) ⊎ (length known ≤ at) → other ≡ at → get_or (set known at (length offsets + 1)) other 0 ≢ 0
          → slice_get (offsets ++ at ∷ []) (get_or (set known at (length offsets + 1)) other 0 - 1) ≡ Some other
      here (inl within) same some =
          let number : get_or (set known at (length offsets + 1)) other 0 - 1 ≡ length offsets =
          ap (λ (i : ℕ). get_or (set known at (length offsets + 1)) i 0 - 1) same
          ∙ ap (λ (n : ℕ). n - 1) (get_or-set_same known at (length offsets + 1) 0 within)
          ∙ omega arith in
          ap (slice_get (offsets ++ at ∷ [])) number ∙ at_end ∙ ap Some (sym same)
      here (inr past) same some =
          absurd (some (get_or-eq_default (set known at (length offsets + 1)) 0 (omega (arith, length-set {A = ℕ}))))

-- one more row
pub row_shared : (rows : List (List ℕ)) (column k : ℕ) (places old new : List ℕ) (place : ℕ) (d : List ℕ) → k < length rows
    → Keeps old new → IsShared (take k rows) column places old
    → slice_get new place ≡ Some (get_or (get_or rows k d) column 0)
    → IsShared (take (k + 1) rows) column (places ++ place ∷ []) new
row_shared rows column k places old new place d within keeps shared at =
    let before : map (slice_get new) places ≡ map (λ (numbers : List ℕ). Some (get_or numbers column 0)) (take k rows) =
    kept (λ (numbers : List ℕ). get_or numbers column 0) old new places (take k rows) keeps shared in
    let longer : take (k + 1) rows ≡ take k rows ++ get_or rows k d ∷ [] = take_more rows k d within in
    simp (longer, map-append) (ap₂ (λ (a b : List (Option ℕ)). a ++ b) before (ap (λ (o : Option ℕ). o ∷ []) at))
