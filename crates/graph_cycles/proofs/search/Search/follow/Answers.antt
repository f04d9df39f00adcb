use Rattle.std.proofs.Common.{◌≡◌, ◌<◌, ℕ, true, false, get_or, ap, ◌∙◌, arith}
use Rattle.std.proofs.lemmas.List.{get_or_default}
use borrow.Author.Count.{below_more}
use Rattle.graph_cycles.specs.declared.graph.Edge.{Edge}
use Rattle.graph_cycles.proofs.Searching.{Grows-trans}
use Rattle.graph_cycles.proofs.search.Search.follow.Goals as goal

pub loop-edge-preserved : goal.loop-edge-preserved
loop-edge-preserved c =
    let found = c.edges_from-edge-items.result.now in
    let now = c.reach.new.self.marks.items in
    record {
      grows = Grows-trans _ _ _ _ _ _ c.loop-edge.invariant.grows c.in_ok-reach.ensures.grows;
      search = λ start continues search.
          c.in_ok-reach.ensures.search c.args.graph.now.edges.items start
          (continues _ (c.edges_from-edge-items.ensures.only c.loop-edge.edge-index _ c.loop-edge-test.true).1)
          (c.loop-edge.invariant.search start continues search);
      followed = λ k d h.
          below_more (λ (i : ℕ). get_or now (get_or found i d).to false ≡ true) c.loop-edge.edge-index
          (λ i below. c.in_ok-reach.ensures.grows.kept _ (c.loop-edge.invariant.followed i d below))
          (ap (λ (x : Edge). get_or now x.to false) (get_or_default found c.loop-edge.edge-index d _ c.loop-edge-test.true) ∙ c.in_ok-reach.ensures.marked)
          k h;
    }

pub returns-clause-followed : goal.returns-clause-followed
returns-clause-followed c = λ to edge.
    let place = c.edges_from-edge-items.ensures.all to edge in
    let e : Edge = record { from = c.args.node; to = to } in
    let within : place.0 < c.loop-edge.edge-index = omega arith in
    rw (ap (λ (x : Edge). x.to) place.2) at (c.loop-edge.invariant.followed place.0 e within)
