use Rattle.std.proofs.Common.{rules, ltb}
use Rattle.std.proofs.lemmas.Bool.{ltb-true, ltb-false}
use Rattle.std.proofs.lemmas.List.Sorted.{IsPartitionPoint-from_clause, IsPartitionedBy-ltb}
use Rattle.graph_cycles.specs.declared.graph.Edge.{Edge}
use Rattle.graph_cycles.proofs.graph.Graph.first_from.Goals as goal

pub returns-clause-splits : goal.returns-clause-splits
returns-clause-splits c =
    let point =
    IsPartitionPoint-from_clause (λ (e : Edge). ltb e.from c.args.node) _ _
    (rw c.deref.ensures.value at c.partition_point.ensures.partitioned)
    (IsPartitionedBy-ltb (λ (e : Edge). e.from) c.args.self.now.edges.items c.args.node c.args.self.now.in_order)
    (λ a r q k. search rules) in
    (λ k d low high. ltb-true _ _ (point.0 k d low high), λ k d low high. ltb-false _ _ (point.1 k d low high))
