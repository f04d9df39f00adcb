-- Cycles by numbers of nodes, and in a graph whose edges stand in another order.
use Rattle.std.proofs.Common.{◌≡◌, ℕ, ◌<◌, ◌≤◌, inl, inr, Bool, true, false, List, length, get_or, Option, Some, None, refl, sym, ap, ◌∙◌, subst, arith, eq-eqb}
use Rattle.std.specs.Prelude.{IfSome, IfNone}
use Rattle.std.specs.List.Sorted.{IsPermutation, IsNonDecreasingBy}
use Rattle.std.proofs.lemmas.Bool.Decides.{leb_tells}
use Rattle.std.proofs.lemmas.List.{get_or_default}
use Rattle.std.proofs.lemmas.List.Elements.{All-contains}
use Rattle.std.proofs.lemmas.List.Sorted.{IsPermutation-sym, Contains-permutation}
use Rattle.graph_cycles.specs.declared.graph.Edge.{Edge}
use Rattle.graph_cycles.specs.Cycles.{HasEdge, Leads, OnCycle, IsFirstOnCycle, HasNoCycle}
use Rattle.graph_cycles.specs.Cycles.Leads.{Along, Further}
use Rattle.graph_cycles.specs.Parts.{number_of, IsRising, may_close}

module _ (edges : List Edge) (numbers : List ℕ) where
  -- a walk begins with an edge
  first_edge : (from to : ℕ) → Leads edges from to → (next : ℕ) × HasEdge edges from next
  first_edge from to (Along edge) = (to, edge)
  first_edge from to (Further {v = v} walk edge) = first_edge from v walk

  module _ (rising : IsRising numbers edges) where
    rises : (from to : ℕ) → HasEdge edges from to → number_of numbers from ≤ number_of numbers to
    rises from to edge =
        All-contains (λ (e : Edge). number_of numbers e.from ≤ number_of numbers e.to) edges (record { from = from; to = to }) rising edge

    -- where numbers don't fall, that of a walk's second node is at most that of its last
    first_rises : (from to : ℕ) → Leads edges from to → (next : ℕ) × HasEdge edges from next × (number_of numbers next ≤ number_of numbers to)
    first_rises from to (Along edge) = (to, edge, omega arith)
    first_rises from to (Further {v = v} walk edge) =
        let first = first_rises from v walk in
        let more = rises v to edge in
        (first.0, first.1, omega (arith, first.2, more))

  closing : (rising : Bool) → (rising ≡ true → IsRising numbers edges) → (node : ℕ) → OnCycle edges node
      → (next : ℕ) × HasEdge edges node next × (may_close rising numbers (record { from = node; to = next }) ≡ true)
  closing true said node cycle =
      let first = first_rises (said refl) node node cycle in
      let up = rises (said refl) node first.0 first.1 in
      (first.0, first.1, eq-eqb (number_of numbers node) (number_of numbers first.0) (omega (arith, up, first.2)))
  closing false said node cycle = let first = first_edge node node cycle in (first.0, first.1, refl)

  module _ (rising : Bool) (said : rising ≡ true → IsRising numbers edges) (sorted : IsNonDecreasingBy (λ (e : Edge). e.from) edges)
      (at : ℕ)
      (passed : (k : ℕ) (d : Edge) → k < at → may_close rising numbers (get_or edges k d) ≡ true → ¬ OnCycle edges (get_or edges k d).from)
    where
      -- from a node of a cycle comes an edge that hasn't been passed
      not_passed : (node : ℕ) → OnCycle edges node → (d : Edge) → (k : ℕ) × (k < length edges) × (at ≤ k) × ((get_or edges k d).from ≡ node)
      not_passed node cycle d =
          let close = closing rising said node cycle in
          let edge : Edge = record { from = node; to = close.0 } in
          let k : ℕ = close.1.0 in
          let is : get_or edges k edge ≡ edge = close.1.2 in
          elim (leb_tells at k) [
            | inl later ↦ (k, close.1.1, later.1, ap (λ (e : Edge). e.from) (get_or_default edges k d edge close.1.1 ∙ is))
            | inr before ↦
                absurd
                (passed k edge before.1 (ap (may_close rising numbers) is ∙ close.2)
                (subst (OnCycle edges) (sym (ap (λ (e : Edge). e.from) is)) cycle))
          ]

      pub none_below : (d : Edge) → (lower : ℕ) → lower < (get_or edges at d).from → ¬ OnCycle edges lower
      none_below d lower below cycle =
          let edge = not_passed lower cycle d in
          let later = sorted at edge.0 d edge.2 edge.1 in
          absurd (omega (arith, later, edge.3))

      pub none_at_all : length edges ≤ at → HasNoCycle edges
      none_at_all all node cycle = let edge = not_passed node cycle (record { from = 0; to = 0 }) in absurd (omega (arith, edge.1, edge.2))

module _ (edges same : List Edge) (moved : IsPermutation edges same) where
  pub walked : (from to : ℕ) → Leads edges from to → Leads same from to
  walked from to (Along edge) = Along (Contains-permutation edges same (record { from = from; to = to }) moved edge)
  walked from to (Further {v = v} walk edge) =
      Further (walked from v walk) (Contains-permutation edges same (record { from = v; to = to }) moved edge)

first_moved : (edges same : List Edge) → IsPermutation edges same → (node : ℕ) → IsFirstOnCycle same node → IsFirstOnCycle edges node
first_moved edges same moved node is = record {
  cycle = walked same edges (IsPermutation-sym edges same moved) node node is.cycle;
  first = λ lower below cycle. is.first lower below (walked edges same moved lower lower cycle);
}

pub some_moved : (edges same : List Edge) → IsPermutation edges same → (first : Option ℕ)
    → IfSome first (IsFirstOnCycle same) → IfSome first (IsFirstOnCycle edges)
some_moved edges same moved (Some node) is = first_moved edges same moved node is
some_moved edges same moved None is = is

pub none_moved : (edges same : List Edge) → IsPermutation edges same → (first : Option ℕ)
    → IfNone first (HasNoCycle same) → IfNone first (HasNoCycle edges)
none_moved edges same moved (Some node) none = none
none_moved edges same moved None none = λ node cycle. none node (walked edges same moved node node cycle)
