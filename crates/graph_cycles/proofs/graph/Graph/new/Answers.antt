use Rattle.std.proofs.Common.{rules, ◌<◌}
use Rattle.std.proofs.lemmas.List.Sorted.{IsNonDecreasingBy-from_sort_by_key, All-permutation}
use Rattle.graph_cycles.specs.declared.graph.Edge.{Edge}
use Rattle.graph_cycles.proofs.graph.Graph.new.Goals as goal

pub invariant_of-result : goal.invariant_of-result
invariant_of-result c = record {
  in_order =
      IsNonDecreasingBy-from_sort_by_key (λ (edge : Edge). edge.from) _ c.sort_unstable_by_key.ensures.sorted
      (λ a r f k. search rules);
  below =
      All-permutation (λ (edge : Edge). (edge.from < c.node_count-node_count.result) × (edge.to < c.node_count-node_count.result)) _ _
      c.sort_unstable_by_key.ensures.permutation
      (rw c.in_ok-edges.ensures.items c.node_count-node_count.ensures);
}
