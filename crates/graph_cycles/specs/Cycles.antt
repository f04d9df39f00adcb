-- Walks in a directed graph, and the nodes that lie on a cycle. A graph is a list of edges.
use Rattle.std.specs.Prelude.{ℕ, ◌<◌, ◌==◌, Bool, false, ◌&&◌, ◌||◌, List, [], ◌∷◌, Contains}
use Rattle.graph_cycles.specs.declared.graph.Edge.{Edge}

-- the graph has an edge from one node to another
abbrev pub HasEdge : List Edge → ℕ → ℕ → Type 0
HasEdge edges u w = Contains edges (record { from = u; to = w })

-- one edge or more lead from a node to another, or to itself
pub data Leads (edges : List Edge) : ℕ → ℕ → Type 0 where
  Along : {u w : ℕ} → HasEdge edges u w → Leads edges u w
  Further : {u v w : ℕ} → Leads edges u v → HasEdge edges v w → Leads edges u w

abbrev pub OnCycle : List Edge → ℕ → Type 0
OnCycle edges node = Leads edges node node

-- the node lies on a cycle, and none below it does
pub record IsFirstOnCycle (edges : List Edge) (node : ℕ) : Type 0 where
  pub cycle : OnCycle edges node
  pub first : (lower : ℕ) → lower < node → ¬ OnCycle edges lower

abbrev pub HasNoCycle : List Edge → Type 0
HasNoCycle edges = (node : ℕ) → ¬ OnCycle edges node

-- The same as a test. A walk goes along the other edges alone, or by the first edge of the list: to
-- where it begins, and on from where it ends.
unfoldable pub leads : List Edge → ℕ → ℕ → Bool
leads [] from to = false
leads (edge ∷ edges) from to =
    leads edges from to
    || ((from == edge.from || leads edges from edge.from) && (edge.to == to || leads edges edge.to to))

abbrev pub is_on_cycle : List Edge → ℕ → Bool
is_on_cycle edges node = leads edges node node
