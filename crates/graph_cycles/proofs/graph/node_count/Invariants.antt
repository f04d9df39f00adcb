use Rattle.std.proofs.Common.{ℕ, ◌<◌, get_or}
use Rattle.graph_cycles.specs.declared.graph.Edge.{Edge}
use Rattle.graph_cycles.proofs.graph.node_count.Given as goal

abbrev pub invariant-loop-edge : goal.invariant-loop-edge
invariant-loop-edge l =
    (k : ℕ) (d : Edge) → k < l.edge-index → ((get_or l.edges k d).from < l.count) × ((get_or l.edges k d).to < l.count)
