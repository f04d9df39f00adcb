-- Laws of walks and cycles.
use Rattle.std.specs.Prelude.{ℕ, ◌<◌, ◌↔◌, List, IsTrue}
use Rattle.graph_cycles.specs.declared.graph.Edge.{Edge}
use Rattle.graph_cycles.specs.Cycles.{HasEdge, Leads, HasNoCycle, leads}

abbrev pub WalksJoin : Type 0
WalksJoin = (edges : List Edge) (u v w : ℕ) → Leads edges u v → Leads edges v w → Leads edges u w

-- the test tells whether a walk leads from a node to another
abbrev pub WalksAreDecided : Type 0
WalksAreDecided = (edges : List Edge) (u w : ℕ) → IsTrue (leads edges u w) ↔ Leads edges u w

-- a graph each of whose edges leads to a node of lower rank has no cycle
abbrev pub RanksRuleOutCycles : Type 0
RanksRuleOutCycles =
    (edges : List Edge) (rank : ℕ → ℕ) → ((u w : ℕ) → HasEdge edges u w → rank w < rank u) → HasNoCycle edges
