-- Chains of bases, and runs of fields.
use Rattle.std.proofs.Common.{◌≡◌, ℕ, zero, suc, ◌+◌, ◌-◌, ◌<◌, ◌≤◌, Bool, List, [], ◌∷◌, ◌++◌, filter, Some, None, refl, sym, ap, ◌∙◌, arith, append_assoc}
use Rattle.std.specs.List.{range_with_len, flat_map}
use Rattle.std.proofs.lemmas.List.{append-nil, map-id}
use Rattle.std.proofs.lemmas.List.Elements.{filter-append}
use Rattle.std.proofs.lemmas.List.FromFn.{map-range_with_len_more}
use Rattle.std.proofs.lemmas.Grind.{flat_map-append}
use Rattle.managed_value.specs.declared.names.TypeId.{TypeId}
use Rattle.type_model.specs.Module.{Module}
use Rattle.type_model.specs.Types.{run, extends_of, bases_within, and_bases}

pub fields_more : {A B : Type 0} (f : A → List B) (xs : List A) (x : A) → flat_map f (xs ++ x ∷ []) ≡ flat_map f xs ++ f x
fields_more f xs x = flat_map-append f xs (x ∷ []) ∙ ap (λ ys. flat_map f xs ++ ys) (append-nil (f x))

range_last : (first n at : ℕ) → first + n ≡ at → range_with_len first (n + 1) ≡ range_with_len first n ++ at ∷ []
range_last first n at e = sym (map-id (range_with_len first (n + 1))) ∙ map-range_with_len_more (λ k. k) first n at e ∙ ap (λ xs. xs ++ at ∷ []) (map-id (range_with_len first n))

pub run_empty : (first end : ℕ) → end ≤ first → run first end ≡ []
run_empty first end l = let e : end - first ≡ 0 = omega arith in rw e refl

run_more : (first at : ℕ) → first ≤ at → run first (at + 1) ≡ run first at ++ at ∷ []
run_more first at l =
    let e : at + 1 - first ≡ (at - first) + 1 = omega arith in
    rw e (range_last first (at - first) at (omega arith))

-- the fields that were kept of a run, and of one more
pub kept_more : (p : ℕ → Bool) (first at : ℕ) (old now new : List ℕ) → first ≤ at → now ≡ old ++ filter p (run first at) → new ≡ now ++ filter p (at ∷ []) → new ≡ old ++ filter p (run first (at + 1))
kept_more p first at old now new l before after =
    let more : filter p (run first (at + 1)) ≡ filter p (run first at) ++ filter p (at ∷ []) = ap (filter p) (run_more first at l) ∙ filter-append p (run first at) (at ∷ []) in
    after ∙ ap (λ xs. xs ++ filter p (at ∷ [])) before ∙ append_assoc old (filter p (run first at)) (filter p (at ∷ [])) ∙ ap (λ xs. old ++ xs) (sym more)

-- one more base of a chain
pub chain_more : (m : Module) (chain : List TypeId) (left : ℕ) (at next : TypeId) → 0 < left → extends_of m at ≡ Some next → chain ++ bases_within left m at ≡ (chain ++ next ∷ []) ++ bases_within (left - 1) m next
unfolding bases_within
chain_more m chain zero at next l e = absurd (omega arith)
chain_more m chain (suc n) at next l e =
    let p : suc n - 1 ≡ n = omega arith in
    rw p (ap (λ found. chain ++ and_bases (bases_within n m) found) e ∙ sym (append_assoc chain (next ∷ []) (bases_within n m next)))

pub chain_ends : (m : Module) (chain : List TypeId) (left : ℕ) (at : TypeId) → extends_of m at ≡ None → chain ++ bases_within left m at ≡ chain
unfolding bases_within
chain_ends m chain zero at e = append-nil chain
chain_ends m chain (suc n) at e = ap (λ found. chain ++ and_bases (bases_within n m) found) e ∙ append-nil chain

pub chain_full : (m : Module) (chain : List TypeId) (at : TypeId) → chain ++ bases_within 0 m at ≡ chain
unfolding bases_within
chain_full m chain at = append-nil chain
