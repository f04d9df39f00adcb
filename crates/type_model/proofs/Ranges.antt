-- Lists that are made number after number.
use Rattle.std.proofs.Common.{◌≡◌, ℕ, zero, suc, ◌+◌, ◌-◌, ◌≤◌, List, [], ◌∷◌, ◌++◌, refl, sym, ap, ◌∙◌, arith, append_assoc}
use Rattle.std.specs.List.{range_with_len, flat_map}
use Rattle.std.proofs.lemmas.Grind.{flat_map-append}

range_end : (a n : ℕ) → range_with_len a (suc n) ≡ range_with_len a n ++ (a + n) ∷ []
range_end a zero = ap (λ (k : ℕ). k ∷ []) (omega arith)
range_end a (suc n) =
    ap (λ (l : List ℕ). a ∷ l) (range_end (a + 1) n ∙ ap (λ (k : ℕ). range_with_len (a + 1) n ++ k ∷ []) (omega arith))

pub one_more_row : (n : ℕ) → range_with_len 1 (n + 1) ≡ range_with_len 1 n ++ (n + 1) ∷ []
one_more_row n =
    let next : n + 1 ≡ suc n = omega arith in
    let last : 1 + n ≡ n + 1 = omega arith in
    ap (range_with_len 1) next ∙ range_end 1 n ∙ ap (λ (k : ℕ). range_with_len 1 n ++ k ∷ []) last

append_nil : {A : Type 0} (xs : List A) → xs ++ [] ≡ xs
append_nil [] = refl
append_nil (x ∷ xs) = ap (λ l. x ∷ l) (append_nil xs)

module _ {A : Type 0} (f : ℕ → List A) (start : List A) where
  pub each_more : (done : List A) (a k : ℕ) → a ≤ k → done ≡ start ++ flat_map f (range_with_len a (k - a))
      → done ++ f k ≡ start ++ flat_map f (range_with_len a (k + 1 - a))
  each_more done a k above is =
      let next : k + 1 - a ≡ suc (k - a) = omega arith in
      let last : a + (k - a) ≡ k = omega arith in
      ap (λ (l : List A). l ++ f k) is
      ∙ append_assoc start (flat_map f (range_with_len a (k - a))) (f k)
      ∙ ap (λ (l : List A). start ++ l)
      (ap (λ (l : List A). flat_map f (range_with_len a (k - a)) ++ l) (sym (append_nil (f k)))
      ∙ ap (λ (n : ℕ). flat_map f (range_with_len a (k - a)) ++ (f n ++ [])) (sym last)
      ∙ sym (flat_map-append f (range_with_len a (k - a)) ((a + (k - a)) ∷ []))
      ∙ ap (flat_map f) (sym (range_end a (k - a)))
      ∙ ap (λ (n : ℕ). flat_map f (range_with_len a n)) (sym next))
