-- Laws of walks: they join, the test tells of them, and they don't lead up.
use Rattle.std.proofs.Common.{◌≡◌, ℕ, zero, suc, ◌<◌, ◌⊎◌, inl, inr, true, List, [], ◌∷◌, length, get_or, refl, sym, ap, subst, arith, eq-eqb}
use Rattle.std.specs.Prelude.{◌==◌}
use Rattle.std.proofs.lemmas.Bool.{eqb-true, or_cases, or_left, or_right, and_parts, and_from}
use Rattle.graph_cycles.specs.declared.graph.Edge.{Edge}
use Rattle.graph_cycles.specs.Cycles.{HasEdge, Leads, HasNoCycle, leads}
use Rattle.graph_cycles.specs.Cycles.Leads.{Along, Further}

pub joined : (edges : List Edge) (u v w : ℕ) → Leads edges u v → Leads edges v w → Leads edges u w
joined edges u v w walk (Along edge) = Further walk edge
joined edges u v w walk (Further {v = x} on edge) = Further (joined edges u v x walk on) edge

pub falls : (edges : List Edge) (rank : ℕ → ℕ) → ((u w : ℕ) → HasEdge edges u w → rank w < rank u) → (u w : ℕ) → Leads edges u w → rank w < rank u
falls edges rank lower u w (Along edge) = lower u w edge
falls edges rank lower u w (Further {v = v} walk edge) =
    let before = falls edges rank lower u v walk in
    let last = lower v w edge in
    omega (arith, before, last)

pub ranked : (edges : List Edge) (rank : ℕ → ℕ) → ((u w : ℕ) → HasEdge edges u w → rank w < rank u) → HasNoCycle edges
ranked edges rank lower node cycle = let lower_than_itself = falls edges rank lower node node cycle in omega (arith, lower_than_itself)

module _ (edge : Edge) (edges : List Edge) where
  here : HasEdge (edge ∷ edges) edge.from edge.to
  here = (0, omega arith, refl)

  there : (u w : ℕ) → HasEdge edges u w → HasEdge (edge ∷ edges) u w
  there u w (k, within, is) = (suc k, omega arith, is)

  which : (u w k : ℕ) → k < length (edge ∷ edges) → get_or (edge ∷ edges) k (record { from = u; to = w }) ≡ record { from = u; to = w }
      → ((u ≡ edge.from) × (edge.to ≡ w)) ⊎ HasEdge edges u w
  which u w zero within is = inl (sym (ap (λ (e : Edge). e.from) is), ap (λ (e : Edge). e.to) is)
  which u w (suc k) within is = inr (k, omega arith, is)

  more : (u w : ℕ) → Leads edges u w → Leads (edge ∷ edges) u w
  more u w (Along e) = Along (there u w e)
  more u w (Further {v = v} walk e) = Further (more u v walk) (there v w e)

  abbrev To : ℕ → Type 0
  To u = (u ≡ edge.from) ⊎ Leads edges u edge.from

  abbrev On : ℕ → Type 0
  On w = (edge.to ≡ w) ⊎ Leads edges edge.to w

  -- a walk goes along the other edges, or by this one
  abbrev Parts : ℕ → ℕ → Type 0
  Parts u w = Leads edges u w ⊎ (To u × On w)

  -- one more edge, of the list with this one, at the end of a walk
  parts_further : (u v w : ℕ) → Parts u v → ((v ≡ edge.from) × (edge.to ≡ w)) ⊎ HasEdge edges v w → Parts u w
  parts_further u v w (inl walk) (inl this) = inr (inr (subst (Leads edges u) this.0 walk), inl this.1)
  parts_further u v w (inl walk) (inr e) = inl (Further walk e)
  parts_further u v w (inr (to, on)) (inl this) = inr (to, inl this.1)
  parts_further u v w (inr (to, inl at)) (inr e) = inr (to, inr (Along (subst (λ n. HasEdge edges n w) (sym at) e)))
  parts_further u v w (inr (to, inr on)) (inr e) = inr (to, inr (Further on e))

  parts : (u w : ℕ) → Leads (edge ∷ edges) u w → Parts u w
  parts u w (Along e) =
      elim (which u w e.0 e.1 e.2) [ inl this ↦ inr (inl this.0, inl this.1) | inr other ↦ inl (Along other) ]
  parts u w (Further {v = v} walk e) = parts_further u v w (parts u v walk) (which v w e.0 e.1 e.2)

  -- a walk to where this edge begins, the edge, and a walk on from where it ends
  reaches : (u : ℕ) → To u → Leads (edge ∷ edges) u edge.to
  reaches u (inl at) = Along (subst (λ n. HasEdge (edge ∷ edges) n edge.to) (sym at) here)
  reaches u (inr walk) = Further (more u edge.from walk) here

  through : (u w : ℕ) → To u → On w → Leads (edge ∷ edges) u w
  through u w to (inl at) = subst (Leads (edge ∷ edges) u) at (reaches u to)
  through u w to (inr walk) = joined (edge ∷ edges) u edge.to w (reaches u to) (more edge.to w walk)

pub told : (edges : List Edge) (u w : ℕ) → leads edges u w ≡ true → Leads edges u w
unfolding leads
told [] u w is = absurd (cc)
told (edge ∷ edges) u w is =
    elim (or_cases _ _ is) [
      | inl other ↦ more edge edges u w (told edges u w other)
      | inr this ↦
          let both = and_parts _ _ this in
          through edge edges u w
          (elim (or_cases _ _ both.0) [ inl at ↦ inl (eqb-true u edge.from at) | inr walk ↦ inr (told edges u edge.from walk) ])
          (elim (or_cases _ _ both.1) [ inl at ↦ inl (eqb-true edge.to w at) | inr walk ↦ inr (told edges edge.to w walk) ])
    ]

no_walk : (u w : ℕ) → ¬ Leads [] u w
no_walk u w (Along e) = let none : ⊥ = omega (arith, e.1) in none
no_walk u w (Further walk e) = let none : ⊥ = omega (arith, e.1) in none

pub tells : (edges : List Edge) (u w : ℕ) → Leads edges u w → leads edges u w ≡ true
unfolding leads
tells [] u w walk = absurd (no_walk u w walk)
tells (edge ∷ edges) u w walk =
    elim (parts edge edges u w walk) [
      | inl other ↦ or_left _ _ (tells edges u w other)
      | inr this ↦
          or_right (leads edges u w) _
          (and_from _ _
          (elim this.0 [ inl at ↦ or_left (u == edge.from) (leads edges u edge.from) (eq-eqb u edge.from at) | inr on ↦ or_right (u == edge.from) (leads edges u edge.from) (tells edges u edge.from on) ])
          (elim this.1 [ inl at ↦ or_left (edge.to == w) (leads edges edge.to w) (eq-eqb edge.to w at) | inr on ↦ or_right (edge.to == w) (leads edges edge.to w) (tells edges edge.to w on) ]))
    ]
