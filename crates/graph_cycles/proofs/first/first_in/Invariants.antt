use Rattle.std.proofs.Common.{◌≡◌, ◌<◌, ℕ, true, get_or}
use Rattle.graph_cycles.specs.Cycles.{OnCycle}
use Rattle.graph_cycles.specs.Parts.{may_close}
use Rattle.graph_cycles.specs.declared.graph.Edge.{Edge}
use Rattle.graph_cycles.proofs.first.first_in.Given as goal

abbrev pub invariant-loop-edge : goal.invariant-loop-edge
invariant-loop-edge l =
    (k : ℕ) (d : Edge) → k < l.edge-index → may_close l.rising l.numbers.items (get_or l.graph.edges.items k d) ≡ true
    → ¬ OnCycle l.graph.edges.items (get_or l.graph.edges.items k d).from
