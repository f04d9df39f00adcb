-- What may stand for what, by how many brackets stand round the types.
use Rattle.std.proofs.Common.{◌≡◌, ◌≢◌, ℕ, ◌<◌, Bool, true, false, List, sym, ap, ◌∙◌, subst, refl, arith}
use Rattle.std.specs.Prelude.{IsTrue, ◌↔◌}
use Rattle.std.specs.List.Sorted.{IsPermutation}
use Rattle.std.proofs.lemmas.List.Sorted.{IsPermutation-sym}
use Rattle.managed_value.specs.declared.names.TypeId.{TypeId}
use Rattle.graph_cycles.specs.declared.graph.Edge.{Edge}
use Rattle.graph_cycles.specs.Cycles.{Leads}
use Rattle.graph_cycles.proofs.Closing.{walked}
use Rattle.type_model.specs.Module.{Module}
use Rattle.type_members.specs.Subtypes.{IsSubtype, Itself, Plain, Elements, AsArray, IsOfArrays, type_edges, node}

module _ (m : Module) where
  pub of_arrays : (a b : TypeId) → b.arrays < a.arrays → IsSubtype m a b → IsOfArrays b.base
  of_arrays a b fewer (Itself _) = absurd (omega arith)
  of_arrays a b fewer (Plain _ _ p q walk) = absurd (omega (arith, p, q))
  of_arrays a b fewer (Elements _ _ p q walk) = absurd (omega (arith, p, q))
  of_arrays a b fewer (AsArray _ _ l is) = is

  pub no_deeper : (a b : TypeId) → a.arrays < b.arrays → IsSubtype m a b → ⊥
  no_deeper a b more (Itself _) = omega arith
  no_deeper a b more (Plain _ _ p q walk) = omega (arith, p, q)
  no_deeper a b more (Elements _ _ p q walk) = omega (arith, p, q)
  no_deeper a b more (AsArray _ _ l is) = omega (arith, l)

  pub itself : (a b : TypeId) → a.arrays ≡ b.arrays → a.base ≡ b.base → IsSubtype m a b
  itself a b arrays base =
      let one : a ≡ record { base = b.base; arrays = a.arrays } = ap (λ (n : ℕ). let i : TypeId = record { base = n; arrays = a.arrays } in i) base in
      let two : record { base = b.base; arrays = a.arrays } ≡ b = ap (λ (n : ℕ). let i : TypeId = record { base = b.base; arrays = n } in i) arrays in
      subst (IsSubtype m a) (one ∙ two) (Itself a)

  pub plainly : (a b : TypeId) → a.arrays ≡ 0 → a.base ≢ b.base → IsSubtype m a b → Leads (type_edges m false) (node a.base) (node b.base)
  plainly a b none other (Itself _) = absurd (other refl)
  plainly a b none other (Plain _ _ p q walk) = walk
  plainly a b none other (Elements _ _ p q walk) = absurd (omega (arith, p))
  plainly a b none other (AsArray _ _ l is) = absurd (omega (arith, l))

  pub by_elements : (a b : TypeId) → 0 < a.arrays → a.arrays ≡ b.arrays → a.base ≢ b.base → IsSubtype m a b → Leads (type_edges m true) (node a.base) (node b.base)
  by_elements a b some same other (Itself _) = absurd (other refl)
  by_elements a b some same other (Plain _ _ p q walk) = absurd (omega (arith, p))
  by_elements a b some same other (Elements _ _ p q walk) = walk
  by_elements a b some same other (AsArray _ _ l is) = absurd (omega (arith, l, same))

-- a walk is told by the edges in another order
pub nodes_told : (edges same : List Edge) → IsPermutation edges same → (told : Bool) (u w from to : ℕ) → u ≡ from → w ≡ to
    → IsTrue told ↔ Leads same u w → IsTrue told ↔ Leads edges from to
nodes_told edges same moved told u w from to at_from at_to tells =
    let there : Leads same u w → Leads edges from to = λ (walk : Leads same u w).
    subst (λ (n : ℕ). Leads edges n to) at_from
    (subst (λ (n : ℕ). Leads edges u n) at_to (walked same edges (IsPermutation-sym edges same moved) u w walk)) in
    let back : Leads edges from to → Leads same u w = λ (walk : Leads edges from to).
    walked edges same moved u w
    (subst (λ (n : ℕ). Leads edges n w) (sym at_from) (subst (λ (n : ℕ). Leads edges from n) (sym at_to) walk)) in
    (λ is. there (tells.0 is), λ walk. tells.1 (back walk))

module _ (m : Module) (a b : TypeId) (told : Bool) where
  pub told_of_arrays : b.arrays < a.arrays → IsTrue told ↔ IsOfArrays b.base → IsTrue told ↔ IsSubtype m a b
  told_of_arrays fewer tells = (λ is. AsArray a b fewer (tells.0 is), λ below. tells.1 (of_arrays m a b fewer below))

  pub told_plainly : a.arrays ≡ 0 → a.arrays ≡ b.arrays → a.base ≢ b.base
      → IsTrue told ↔ Leads (type_edges m false) (node a.base) (node b.base) → IsTrue told ↔ IsSubtype m a b
  told_plainly none same other tells =
      (λ is. Plain a b none (sym same ∙ none) (tells.0 is), λ below. tells.1 (plainly m a b none other below))

  pub told_by_elements : 0 < a.arrays → a.arrays ≡ b.arrays → a.base ≢ b.base
      → IsTrue told ↔ Leads (type_edges m true) (node a.base) (node b.base) → IsTrue told ↔ IsSubtype m a b
  told_by_elements some same other tells =
      (λ is. Elements a b some (sym same) (tells.0 is), λ below. tells.1 (by_elements m a b some same other below))
