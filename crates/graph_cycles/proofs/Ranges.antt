-- The edges of one node stand together, where edges are in order of the nodes that they come from.
use Rattle.std.proofs.Common.{◌≡◌, ℕ, ◌+◌, ◌-◌, ◌<◌, ◌≤◌, inl, inr, true, false, List, length, get_or, take, drop, ap, ◌∙◌, arith, leb, length-take, length-drop, get_or-take, get_or-drop}
use Rattle.std.proofs.lemmas.Bool.{leb-true, leb-false}
use Rattle.std.proofs.lemmas.Bool.Decides.{leb_tells}
use Rattle.std.specs.Prelude.{Contains}
use Rattle.std.specs.List.Sorted.{IsPartitionPoint}
use Rattle.std.proofs.lemmas.List.{get_or_default}
use Rattle.graph_cycles.specs.declared.graph.Edge.{Edge}
use Rattle.graph_cycles.specs.Cycles.{HasEdge}
use Rattle.graph_cycles.specs.Parts.{AreEdgesFrom}

-- an edge of this place, from a node that it comes from
pub edge_at : (edges : List Edge) (k : ℕ) (d : Edge) (node : ℕ) → k < length edges → (get_or edges k d).from ≡ node
    → HasEdge edges node (get_or edges k d).to
edge_at edges k d node within is = (
  k,
  within,
  get_or_default edges k (record { from = node; to = (get_or edges k d).to }) d within
      ∙ ap (λ (n : ℕ). let e : Edge = record { from = n; to = (get_or edges k d).to } in e) is,
)

module _ (edges : List Edge) (node start count : ℕ) (rest : List Edge)
    (start_in : start ≤ length edges)
    (from_start : IsPartitionPoint (λ (e : Edge). e.from < node) (λ (e : Edge). node ≤ e.from) edges start)
    (same : rest ≡ take (length edges - start) (drop start edges))
    (count_in : count ≤ length rest)
    (to_count : IsPartitionPoint (λ (e : Edge). leb e.from node ≡ true) (λ (e : Edge). leb e.from node ≡ false) rest count)
  where
    rest_length : length rest ≡ length edges - start
    rest_length = rw same (simp (length-take, length-drop) (omega arith))

    rest_at : (k : ℕ) (d : Edge) → k < length rest → get_or rest k d ≡ get_or edges (start + k) d
    rest_at k d h =
        let below : k < length edges - start = omega (arith, rest_length) in
        ap (λ (l : List Edge). get_or l k d) same
        ∙ get_or-take (length edges - start) (drop start edges) k d below
        ∙ get_or-drop start edges k d

    from_at : (k : ℕ) (d : Edge) → k < count → (get_or rest k d).from ≡ node
    from_at k d h =
        let within : k < length rest = omega arith in
        let not_above : (get_or rest k d).from ≤ node = leb-true _ _ (to_count.0 k d (omega arith) h) in
        let not_below : node ≤ (get_or edges (start + k) d).from = from_start.1 (start + k) d (omega arith) (omega (arith, rest_length)) in
        let same_from : (get_or rest k d).from ≡ (get_or edges (start + k) d).from = ap (λ (e : Edge). e.from) (rest_at k d within) in
        omega arith

    only_from : (k : ℕ) (d : Edge) → k < count → HasEdge edges node (get_or rest k d).to
    only_from k d h =
        let within : k < length rest = omega arith in
        let at : get_or rest k d ≡ get_or edges (start + k) d = rest_at k d within in
        rw at (edge_at edges (start + k) d node (omega (arith, rest_length)) (rw at at (from_at k d h)))

    -- the place of an edge from the node lies in the range
    not_before : (k : ℕ) (d : Edge) → k < length edges → (get_or edges k d).from ≡ node → start ≤ k
    not_before k d within is =
        elim (leb_tells start k) [
          | inl here ↦ here.1
          | inr before ↦
              let low : (get_or edges k d).from < node = from_start.0 k d (omega arith) before.1 in
              absurd (omega arith)
        ]

    not_after : (k : ℕ) (d : Edge) → k < length rest → (get_or rest k d).from ≡ node → k < count
    not_after k d within is =
        elim (leb_tells count k) [
          | inl after ↦
              let high : node < (get_or rest k d).from = leb-false _ _ (to_count.1 k d after.1 within) in
              absurd (omega arith)
          | inr here ↦ here.1
        ]

    front_length : length (take count rest) ≡ count
    front_length = simp length-take (omega arith)

    all_from : (to : ℕ) → HasEdge edges node to → Contains (take count rest) (record { from = node; to = to })
    all_from to h =
        let e : Edge = record { from = node; to = to } in
        let after : start ≤ h.0 = not_before h.0 e h.1 (ap (λ (x : Edge). x.from) h.2) in
        let there : start + (h.0 - start) ≡ h.0 = omega arith in
        let within : h.0 - start < length rest = omega (arith, rest_length) in
        let is : get_or rest (h.0 - start) e ≡ e = rest_at (h.0 - start) e within ∙ ap (λ (k : ℕ). get_or edges k e) there ∙ h.2 in
        let below : h.0 - start < count = not_after (h.0 - start) e within (ap (λ (x : Edge). x.from) is) in
        (h.0 - start, omega (arith, front_length), get_or-take count rest (h.0 - start) e below ∙ is)

    only_here : (k : ℕ) (d : Edge) → k < length (take count rest)
        → ((get_or (take count rest) k d).from ≡ node) × HasEdge edges node (get_or (take count rest) k d).to
    only_here k d h =
        let below : k < count = omega (arith, front_length) in
        rw (get_or-take count rest k d below) (from_at k d below, only_from k d below)

    pub edges_between : AreEdgesFrom edges node (take count rest)
    edges_between = record { only = only_here; all = all_from }
