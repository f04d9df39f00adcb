use Rattle.std.proofs.Common.{◌≡◌, ◌≤◌, ℕ, true, List, length, get_or}
use Rattle.graph_cycles.specs.Cycles.{IsFirstOnCycle}
use Rattle.graph_cycles.specs.Parts.{IsRising}
use Rattle.graph_cycles.specs.declared.graph.Edge.{Edge}
use Rattle.graph_cycles.proofs.Closing.{none_below, none_at_all}
use Rattle.graph_cycles.proofs.first.first_in.Goals as goal

pub returns-then-branch-clause-found : goal.returns-then-branch-clause-found
returns-then-branch-clause-found c =
    let edges : List Edge = c.args.graph.now.edges.items in
    let numbers : List ℕ = c.in_ok-numbers.numbers.items in
    let said : c.is_rising-rising.result ≡ true → IsRising numbers edges =
    rw (c.deref.ensures.value, c.deref-2.ensures.value) at c.is_rising-rising.ensures.0 in
    let d : Edge = record { from = 0; to = 0 } in
    rw c.deref-edge-items.ensures.value
    (let is : IsFirstOnCycle edges (get_or edges c.loop-edge.edge-index d).from = record {
      cycle = rw c.deref-edge-items.ensures.value at (c.in_ok-is_on_cycle.ensures.0 c.if-branch.true);
      first = none_below edges numbers c.is_rising-rising.result said c.args.graph.now.in_order c.loop-edge.edge-index c.loop-edge.invariant d;
    } in is)

pub returns-clause-none : goal.returns-clause-none
returns-clause-none c =
    let edges : List Edge = c.args.graph.now.edges.items in
    let numbers : List ℕ = c.in_ok-numbers.numbers.items in
    let said : c.is_rising-rising.result ≡ true → IsRising numbers edges =
    rw (c.deref.ensures.value, c.deref-2.ensures.value) at c.is_rising-rising.ensures.0 in
    let all : length edges ≤ c.loop-edge.edge-index = rw c.deref-edge-items.ensures.value at c.loop-edge-test.false in
    none_at_all edges numbers c.is_rising-rising.result said c.args.graph.now.in_order c.loop-edge.edge-index c.loop-edge.invariant all
