use Rattle.std.proofs.Common.{◌≡◌, ◌∙◌, arith, true, false, sym, get_or}
use borrow.Author.Count.{below_more}
use Rattle.native_layout.specs.declared.extent.Range.{Range}
use Rattle.native_layout.specs.Struct.{overlaps_another}
use Rattle.native_layout.proofs.Counts.{overlaps_by_sorted}
use Rattle.native_layout.proofs.Positions.{position_at, position_none}
use Rattle.native_layout.proofs.overlap.first_sharing.Goals as goal

pub returns-then-overlaps_another : goal.returns-then-overlaps_another
returns-then-overlaps_another c =
    let r : Range = get_or c.args.ranges.now c.loop-k.k (record { start = 0; end = 0 }) in
    let is = overlaps_by_sorted c.args.ranges.now _ _ c.requires.starts c.requires.ends r in
    let here : overlaps_another c.args.ranges.now r ≡ true = sym is ∙ (sym c.overlaps_another.ensures ∙ c.if-overlaps_another.true) in
    sym (position_at (overlaps_another c.args.ranges.now) c.args.ranges.now c.loop-k.k (record { start = 0; end = 0 }) c.loop-k-test.true c.loop-k.invariant here)

pub loop-k-preserved : goal.loop-k-preserved
loop-k-preserved c =
    let r : Range = get_or c.args.ranges.now c.loop-k.k (record { start = 0; end = 0 }) in
    let is = overlaps_by_sorted c.args.ranges.now _ _ c.requires.starts c.requires.ends r in
    let here : overlaps_another c.args.ranges.now r ≡ false = sym is ∙ (sym c.overlaps_another.ensures ∙ c.if-overlaps_another.false) in
    below_more _ _ c.loop-k.invariant here

pub returns : goal.returns
returns c = sym (position_none (overlaps_another c.args.ranges.now) c.args.ranges.now (record { start = 0; end = 0 }) (λ j h. c.loop-k.invariant j (omega arith)))
