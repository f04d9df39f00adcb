use Rattle.std.proofs.Common.{◌≡◌, ◌∙◌, ℕ, ◌/◌, List, map, sym, ap, arith}
use Rattle.std.proofs.Common.{Vec, Global}
use Rattle.graph_cycles.specs.Chains.{next_in, after}
use Rattle.graph_cycles.proofs.Chained.{none_left, even_step, odd_step}
use Rattle.graph_cycles.proofs.chains.after_steps.Goals as goal
use Rattle.graph_cycles.proofs.chains.after_steps.Goals.{then-left-eq1+in_ok-ends-2, else-left-eq1}

pub loop-left-preserved : goal.loop-left-preserved
loop-left-preserved c =
    let table : List ℕ = c.loop-left.jumps.items in
    let doubled : c.in_ok-jumps-2.jumps.items ≡ map (next_in table) table =
    rw (c.deref-in-loop-left.ensures.value, c.deref-in-loop-left-2.ensures.value) at c.in_ok-jumps-2.ensures in
    rw doubled
    (elim c.if-left-eq1.branch [
      | then-left-eq1+in_ok-ends-2 w ↦
          let ends : w.in_ok-ends-2.ends.items ≡ map (next_in table) c.loop-left.ends.items =
          rw (w.deref.ensures.value, w.deref-then-left-eq1.ensures.value) at w.in_ok-ends-2.ensures in
          ap (λ (v : Vec ℕ Global). map (after (map (next_in table) table) (c.loop-left.left / 2)) v.items) w.ends-is
          ∙ ap (map (after (map (next_in table) table) (c.loop-left.left / 2))) ends
          ∙ odd_step table c.loop-left.left w.if-left-eq1.true c.loop-left.ends.items
          ∙ c.loop-left.invariant
      | else-left-eq1 w ↦
          ap (λ (v : Vec ℕ Global). map (after (map (next_in table) table) (c.loop-left.left / 2)) v.items) w.ends-is
          ∙ even_step table c.loop-left.left w.if-left-eq1.false c.loop-left.ends.items
          ∙ c.loop-left.invariant
    ])

pub returns : goal.returns
returns c =
    let over : 0 ≡ c.loop-left.left = omega arith in
    sym (none_left c.loop-left.jumps.items c.loop-left.ends.items)
    ∙ ap (λ (n : ℕ). map (after c.loop-left.jumps.items n) c.loop-left.ends.items) over
    ∙ c.loop-left.invariant
