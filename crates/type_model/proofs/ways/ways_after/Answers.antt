use Rattle.std.proofs.Common.{◌≡◌, ◌∙◌, ℕ, ◌/◌, List, map, sym, ap, arith}
use Rattle.std.proofs.Common.{Vec, Global}
use Rattle.type_model.specs.declared.ways.Way.{Way}
use Rattle.type_model.specs.Ways.{way_from, joined, prolonged}
use Rattle.type_model.proofs.WaysOn.{doubled, none_left, even_step, odd_step, steps_counted}
use Rattle.type_model.proofs.ways.ways_after.Goals as goal
use Rattle.type_model.proofs.ways.ways_after.Goals.{then-left-eq1+in_ok-ways-2, else-left-eq1}

pub loop-left-preserved : goal.loop-left-preserved
loop-left-preserved c =
    let table : List Way = c.loop-left.jumps.items in
    let half : ℕ = c.loop-left.left / 2 in
    let twice : c.in_ok-jumps-2.jumps.items ≡ doubled table =
    rw (c.deref-in-loop-left.ensures.value, c.deref-in-loop-left-2.ensures.value) at c.in_ok-jumps-2.ensures in
    record {
      counted = elim c.if-left-eq1.branch [
        | then-left-eq1+in_ok-ways-2 w ↦
            let ways : w.in_ok-ways-2.ways.items ≡ map (λ (way : Way). joined way (way_from table way.to)) c.loop-left.ways.items =
            rw (w.deref.ensures.value, w.deref-then-left-eq1.ensures.value) at w.in_ok-ways-2.ensures in
            let now : c.if-left-eq1.ways.items ≡ map (λ (way : Way). joined way (way_from table way.to)) c.loop-left.ways.items = ap (λ (v : Vec Way Global). v.items) w.ways-is ∙ ways in
            rw now (steps_counted table c.loop-left.ways.items)
        | else-left-eq1 w ↦
            let now : c.if-left-eq1.ways.items ≡ c.loop-left.ways.items = ap (λ (v : Vec Way Global). v.items) w.ways-is in
            rw now c.loop-left.invariant.counted
      ];
      on = rw twice
          (elim c.if-left-eq1.branch [
            | then-left-eq1+in_ok-ways-2 w ↦
                let ways : w.in_ok-ways-2.ways.items ≡ map (λ (way : Way). joined way (way_from table way.to)) c.loop-left.ways.items =
                rw (w.deref.ensures.value, w.deref-then-left-eq1.ensures.value) at w.in_ok-ways-2.ensures in
                ap (λ (v : Vec Way Global). map (prolonged (doubled table) half) v.items) w.ways-is
                ∙ ap (map (prolonged (doubled table) half)) ways
                ∙ odd_step table c.loop-left.left w.if-left-eq1.true c.loop-left.ways.items
                ∙ c.loop-left.invariant.on
            | else-left-eq1 w ↦
                ap (λ (v : Vec Way Global). map (prolonged (doubled table) half) v.items) w.ways-is
                ∙ even_step table c.loop-left.left w.if-left-eq1.false c.loop-left.ways.items
                ∙ c.loop-left.invariant.on
          ]);
    }

pub returns : goal.returns
returns c =
    let over : 0 ≡ c.loop-left.left = omega arith in
    sym (none_left c.loop-left.jumps.items c.loop-left.ways.items c.loop-left.invariant.counted)
    ∙ ap (λ (n : ℕ). map (prolonged c.loop-left.jumps.items n) c.loop-left.ways.items) over
    ∙ c.loop-left.invariant.on
