-- The full name of a type is that of its chain of enclosing types.
use Rattle.std.proofs.Common.{◌≡◌, ℕ, zero, suc, ◌+◌, ◌-◌, ◌<◌, ◌≤◌, ◌≢◌, Bool, true, false, List, [], ◌∷◌, ◌++◌, length, drop, get_or, inl, inr, refl, sym, ap, ◌∙◌, arith, append_assoc, add-one}
use Rattle.std.specs.Prelude.{◌==◌, nat_lt, codes, if◌then◌else◌}
use Rattle.std.proofs.lemmas.Bool.{cases_lt, lt-ltb, le-ltb, ne_eqb, eq-eqb}
use Rattle.std.proofs.lemmas.List.{drop_more, drop_all, append-nil, length-drop}
use Rattle.type_model.specs.Module.{Module}
use Rattle.type_model.specs.Rows.{encloser}
use Rattle.type_model.specs.FullNames.{own_name, nested_name, brackets}
use Rattle.type_model.specs.NameChains.{chain_within, chain_name}

module _ (m : Module) where
  -- the types that enclose one, so many
  abbrev pub around : ℕ → ℕ → List ℕ
  around zero t = []
  around (suc n) t = if encloser m t == 0 then [] else chain_within n m (encloser m t)

  chain_is : (n t : ℕ) → chain_within n m t ≡ t ∷ around n t
  chain_is zero t = refl
  chain_is (suc n) t = refl

  pub chain_begins : (n t : ℕ) → t ∷ around n t ≡ chain_within n m t
  chain_begins n t = sym (chain_is n t)

  pub chain_more : (chain : List ℕ) (n t next : ℕ) → 0 < n → next ≡ encloser m t → next ≢ 0
      → (chain ++ next ∷ []) ++ around (n - 1) next ≡ chain ++ around n t
  chain_more chain zero t next some is there = absurd (omega arith)
  chain_more chain (suc n) t next some is there =
      let back : suc n - 1 ≡ n = omega arith in
      let nested : (encloser m t == 0) ≡ false = ne_eqb (encloser m t) 0 (λ none. there (is ∙ none)) in
      append_assoc chain (next ∷ []) (around (suc n - 1) next)
      ∙ ap (λ (k : ℕ). chain ++ next ∷ around k next) back
      ∙ ap (λ (l : List ℕ). chain ++ l) (sym (chain_is n next) ∙ ap (chain_within n m) is)
      ∙ sym (ap (λ (b : Bool). chain ++ (if b then [] else chain_within n m (encloser m t))) nested)

  pub chain_ends : (chain : List ℕ) (n t : ℕ) → encloser m t ≡ 0 → chain ≡ chain ++ around n t
  chain_ends chain zero t none = sym (append-nil chain)
  chain_ends chain (suc n) t none =
      sym (ap (λ (b : Bool). chain ++ (if b then [] else chain_within n m (encloser m t))) (eq-eqb (encloser m t) 0 none) ∙ append-nil chain)

  pub chain_full : (chain : List ℕ) (t : ℕ) → chain ≡ chain ++ around 0 t
  chain_full chain t = sym (append-nil chain)

  -- the name of a chain with one more type
  begins : (n t : ℕ) → chain_name m (t ∷ chain_within n m (encloser m t)) ≡ chain_name m (chain_within n m (encloser m t)) ++ 43 ∷ own_name m t
  begins zero t = refl
  begins (suc n) t = refl

  named_by : (n t : ℕ) (b : Bool) → nested_name n m (encloser m t) ≡ chain_name m (chain_within n m (encloser m t))
      → (if b then own_name m t else nested_name n m (encloser m t) ++ 43 ∷ own_name m t)
      ≡ chain_name m (t ∷ (if b then [] else chain_within n m (encloser m t)))
  named_by n t true is = refl
  named_by n t false is = ap (λ (l : List ℕ). l ++ 43 ∷ own_name m t) is ∙ sym (begins n t)

  pub chain_named : (n t : ℕ) → chain_name m (chain_within n m t) ≡ nested_name n m t
  unfolding nested_name
  chain_named zero t = refl
  chain_named (suc n) t = sym (named_by n t (encloser m t == 0) (sym (chain_named n (encloser m t))))

  pub none_named : (chain : List ℕ) → [] ≡ chain_name m (drop (length chain) chain)
  none_named chain = sym (ap (chain_name m) (drop_all (length chain) chain (omega arith)))

  one_more : (t : ℕ) (rest name : List ℕ) → name ≡ chain_name m rest
      → name ++ (if nat_lt 0 (length rest) then 43 ∷ own_name m t else own_name m t) ≡ chain_name m (t ∷ rest)
  one_more t [] name is = ap (λ (l : List ℕ). l ++ own_name m t) is
  one_more t (outer ∷ rest) name is =
      let some : nat_lt 0 (length (outer ∷ rest)) ≡ true = lt-ltb 0 (length (outer ∷ rest)) (omega arith) in
      rw some (ap (λ (l : List ℕ). l ++ 43 ∷ own_name m t) is)

  left_over : (chain : List ℕ) (k : ℕ) → nat_lt k (length chain) ≡ nat_lt 0 (length (drop k chain))
  left_over chain k =
      elim (cases_lt k (length chain)) [
        | inl within ↦ lt-ltb k (length chain) within ∙ sym (lt-ltb 0 (length (drop k chain)) (omega (arith, length-drop k chain)))
        | inr past ↦ le-ltb k (length chain) past ∙ sym (le-ltb 0 (length (drop k chain)) (omega (arith, length-drop k chain)))
      ]

  pub named_so_far : (chain name : List ℕ) (k : ℕ) (d : ℕ) → k < length chain → name ≡ chain_name m (drop (k + 1) chain)
      → name ++ (if nat_lt (k + 1) (length chain) then 43 ∷ own_name m (get_or chain k d) else own_name m (get_or chain k d)) ≡ chain_name m (drop k chain)
  named_so_far chain name k d within is =
      ap (λ (b : Bool). name ++ (if b then 43 ∷ own_name m (get_or chain k d) else own_name m (get_or chain k d))) (left_over chain (k + 1))
      ∙ one_more (get_or chain k d) (drop (k + 1) chain) name is
      ∙ sym (ap (chain_name m) (drop_more chain k d within))

  -- when all types of a chain have told their names, the name is whole
  pub all_named : (chain : List ℕ) (left n t : ℕ) → left ≤ 0 → chain ≡ chain_within n m t → chain_name m (drop left chain) ≡ nested_name n m t
  all_named chain left n t none is =
      let empty : left ≡ 0 = omega arith in
      ap (λ (k : ℕ). chain_name m (drop k chain)) empty ∙ ap (chain_name m) is ∙ chain_named n t

pub brackets_more : (n : ℕ) → brackets (n + 1) ≡ brackets n ++ codes "[]"
unfolding brackets
brackets_more n = rw add-one refl
