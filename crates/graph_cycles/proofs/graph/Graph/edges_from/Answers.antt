use Rattle.std.proofs.Common.{rules, ◌≡◌, ℕ, ◌-◌, List, length, take, drop, ap, leb}
use Rattle.std.specs.List.Sorted.{IsNonDecreasingBy}
use Rattle.std.proofs.lemmas.List.Sorted.{IsPartitionPoint-from_clause, IsPartitionedBy-leb, IsNonDecreasingBy-take, IsNonDecreasingBy-drop}
use Rattle.graph_cycles.specs.declared.graph.Edge.{Edge}
use Rattle.graph_cycles.proofs.Ranges.{edges_between}
use Rattle.graph_cycles.proofs.graph.Graph.edges_from.Goals as goal

pub returns : goal.returns
returns c =
    let edges : List Edge = c.args.self.now.edges.items in
    let start : ℕ = c.first_from.result in
    let rest : List Edge = take (length edges - start) (drop start edges) in
    let same : take (length c.deref.result.now - start) (drop start c.deref.result.now) ≡ rest =
    ap (λ (l : List Edge). take (length l - start) (drop start l)) c.deref.ensures.value in
    let sorted : IsNonDecreasingBy (λ (e : Edge). e.from) rest =
    IsNonDecreasingBy-take (λ (e : Edge). e.from) (length edges - start) (drop start edges)
    (IsNonDecreasingBy-drop (λ (e : Edge). e.from) start edges c.args.self.now.in_order) in
    edges_between edges c.args.node start c.partition_point-count.result _
    c.first_from.ensures.within
    c.first_from.ensures.splits
    same
    c.partition_point-count.ensures.bound
    (IsPartitionPoint-from_clause (λ (e : Edge). leb e.from c.args.node) _ _ c.partition_point-count.ensures.partitioned
    (rw same (IsPartitionedBy-leb (λ (e : Edge). e.from) rest c.args.node sorted)) (λ a r q k. search rules))
