use Rattle.std.proofs.Common.{◌≡◌, ◌<◌, ℕ, true, false, get_or}
use Rattle.graph_cycles.specs.Parts.{Continues, IsSearch, Grows}
use Rattle.graph_cycles.specs.declared.graph.Edge.{Edge}
use Rattle.graph_cycles.proofs.search.Search.follow.Given as goal

abbrev pub invariant-loop-edge : goal.invariant-loop-edge
invariant-loop-edge l = record {
  grows : Grows l.initial.self.marks.items l.self.marks.items l.initial.self.queue.items l.self.queue.items;
  search :
      (start : ℕ) → Continues l.graph.edges.items start l.node
      → IsSearch l.graph.edges.items start l.initial.self.marks.items l.initial.self.queue.items
      → IsSearch l.graph.edges.items start l.self.marks.items l.self.queue.items;
  followed : (k : ℕ) (d : Edge) → k < l.edge-index → get_or l.self.marks.items (get_or l.edge-items k d).to false ≡ true;
}
