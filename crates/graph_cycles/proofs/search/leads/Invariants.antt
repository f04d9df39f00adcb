use Rattle.std.proofs.Common.{◌≡◌, ◌<◌, ◌≤◌, ◌-◌, ℕ, length, get_or}
use Rattle.graph_cycles.specs.Parts.{IsFollowed, IsSearch}
use Rattle.graph_cycles.proofs.search.leads.Given as goal

abbrev pub invariant-loop-next : goal.invariant-loop-next
invariant-loop-next l = record {
  search : IsSearch l.graph.edges.items l.from l.search.marks.items l.search.queue.items;
  marks : length l.search.marks.items ≡ l.graph.node_count;
  first : IsFollowed l.graph.edges.items l.search.marks.items l.from;
  within : l.next ≤ length l.search.queue.items;
  done : (k : ℕ) → k < l.next → IsFollowed l.graph.edges.items l.search.marks.items (get_or l.search.queue.items k 0);
}

abbrev pub decreases-loop-next : goal.decreases-loop-next
decreases-loop-next l = l.graph.node_count - l.next
