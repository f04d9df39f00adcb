use Rattle.std.proofs.Common.{◌≡◌, ◌<◌, ◌≤◌, ◌∙◌, ℕ, Bool, List, length, get_or, arith, sym, subst}
use Rattle.std.proofs.lemmas.List.{get_or_default}
use borrow.Author.Count.{below_more}
use Rattle.graph_cycles.specs.Cycles.Leads.{Along}
use Rattle.graph_cycles.specs.Parts.{Continues, IsFollowed}
use Rattle.graph_cycles.specs.declared.graph.Edge.{Edge}
use Rattle.graph_cycles.proofs.Searching.{continues, kept_place, longer, reached_leads, all_reached}
use Rattle.graph_cycles.proofs.search.leads.Goals as goal

pub loop-next-init : goal.loop-next-init
loop-next-init c = record {
  search = c.in_ok-follow.ensures.search c.args.from (λ to edge. Along edge) (c.in_ok-search.ensures.search c.args.from);
  marks = c.in_ok-follow.ensures.grows.marks ∙ c.in_ok-search.ensures.marks;
  first = c.in_ok-follow.ensures.followed;
  within = omega arith;
  done = λ k none. absurd (omega arith);
}

pub loop-next-preserved : goal.loop-next-preserved
loop-next-preserved c =
    let edges : List Edge = c.args.graph.now.edges.items in
    let marks : List Bool = c.follow-in-loop-next.new.self.marks.items in
    let before : List ℕ = c.loop-next.search.queue.items in
    let queue : List ℕ = c.follow-in-loop-next.new.self.queue.items in
    let grows = c.in_ok-follow-2.ensures.grows in
    let here : c.loop-next.next < length before = omega arith in
    let read : get_or before c.loop-next.next 0 ≡ c.index-reached.result.now =
    get_or_default before c.loop-next.next 0 c.index-reached.result.now here ∙ sym c.index-reached.ensures in
    let same : (k : ℕ) → k < length before → get_or queue k 0 ≡ get_or before k 0 =
    λ k within. kept_place _ _ before queue k grows within in
    record {
      search = c.in_ok-follow-2.ensures.search c.args.from
          (subst (Continues edges c.args.from) read (continues edges c.args.from _ before c.loop-next.invariant.search c.loop-next.next here))
          c.loop-next.invariant.search;
      marks = grows.marks ∙ c.loop-next.invariant.marks;
      first = λ to edge. grows.kept _ (c.loop-next.invariant.first to edge);
      within = omega (arith, longer _ _ before queue grows);
      done = below_more (λ (k : ℕ). IsFollowed edges marks (get_or queue k 0)) c.loop-next.next
          (λ k below. subst (IsFollowed edges marks) (sym (same k (omega arith)))
          (λ to edge. grows.kept _ (c.loop-next.invariant.done k below to edge)))
          (subst (IsFollowed edges marks) (sym (same c.loop-next.next here ∙ read)) c.in_ok-follow-2.ensures.followed);
    }

pub returns : goal.returns
returns c =
    let end : length c.loop-next.search.queue.items ≤ c.loop-next.next = omega arith in
    rw c.has_reached.ensures (
      reached_leads _ c.args.from _ _ c.loop-next.invariant.search c.args.to,
      all_reached _ c.args.from _ _ c.loop-next.invariant.search c.loop-next.invariant.first
          (λ k within. c.loop-next.invariant.done k (omega arith)) c.args.to,
    )
