use Rattle.std.proofs.Common.{◌≡◌, ◌≤◌, ◌^◌, ◌∙◌, Bool, true, false, not, IsTrue, Result, Some, All, List, map, arith, rules, sym, subst, ap}
use Rattle.std.specs.Option.{option_map}
use Rattle.std.proofs.lemmas.List.{length-map}
use Rattle.std.proofs.lemmas.List.Elements.{All-push}
use borrow.Author.Count.{below_more}
use Rattle.native_layout.specs.declared.extent.Extent.{Extent}
use Rattle.native_layout.specs.declared.refused.LayoutBad.{LayoutBad}
use Rattle.native_layout.specs.declared.shapes.Shape.{Shape, the_lemmas}
use Rattle.native_layout.specs.Struct.{Measure, is_align}
use Rattle.native_layout.specs.Shapes.{in_order, measure, measured, repeated, scalar}
use Rattle.native_layout.specs.Answer.{told}
use Rattle.native_layout.specs.Placed.{AreExtents, IsMeasured}
use Rattle.native_layout.specs.Ruled.{AnswersRuled}
use Rattle.native_layout.proofs.Folds.{measure_struct, in_order_struct}
use Rattle.native_layout.proofs.Ruled.{layout_ruled}
use Rattle.native_layout.proofs.Positions.{position_at, position_none}
use Rattle.native_layout.proofs.Structs.{standing_struct, outside_struct, repeated_extent, all_capped, same_err, measure_at, extents_step, extents_whole}
use Rattle.native_layout.proofs.layouts.+layout.Goals as goal

pub layout-place-requires-clause-sizes : goal.layout-place-requires-clause-sizes
layout-place-requires-clause-sizes t c =
    subst (λ (es : List Extent). All (λ (e : Extent). e.size ≤ 2 ^ 32) es) (sym (c.as_slice-2.ensures.value ∙ c.in_ok-extents.ensures.extents)) (all_capped _)

pub layout-returns-clause-value : goal.layout-returns-clause-value
layout-returns-clause-value t c =
    let answers = subst (λ (es : List Extent). AnswersRuled c.rules_of.result c.args.s.now.offsets es c.place.result) c.as_slice-2.ensures.value c.place.ensures.value in
    let are = subst (λ (shapes : List Shape). AreExtents (map measure shapes) c.in_ok-extents.extents.items) c.as_slice.ensures c.in_ok-extents.ensures in
    layout_ruled c.args.s.now c.rules_of.result _ c.place.result c.rules_of.ensures are answers

pub extent_of-layout-requires : goal.extent_of-layout-requires
extent_of-layout-requires t c =
    (search (rules, the_lemmas), subst (λ (b : Bool). IsTrue b) (ap in_order c.in-Struct.is ∙ in_order_struct c.in-Struct.s) c.requires)

pub extent_of-returns-in_err-l-in-Struct : goal.extent_of-returns-in_err-l-in-Struct
extent_of-returns-in_err-l-in-Struct t c =
    let is = ap measure c.in-Struct.is ∙ measure_struct c.in-Struct.s in
    let said = outside_struct (measure c.args.shape.now) (measured c.in-Struct.s) c.in_err-l-in-Struct.field-0.0 is c.in_err-l-in-Struct.ensures.value in
    let same = same_err c.from_residual-in_err-l-in-Struct.result c.in_err-l-in-Struct.field-0.0 c.from_residual-in_err-l-in-Struct.ensures.1 in
    subst (λ (r : Result Extent LayoutBad). IsMeasured (measure c.args.shape.now) r) (sym same) said

pub extent_of-returns-in_ok-e-in-InlineArray : goal.extent_of-returns-in_ok-e-in-InlineArray
extent_of-returns-in_ok-e-in-InlineArray t c =
    let is : measure c.args.shape.now ≡ repeated c.in-InlineArray.count (measure c.get.result.now) = search (rules, the_lemmas) in
    repeated_extent _ _ c.in-InlineArray.count c.min.result c.in_ok-e-in-InlineArray.e is c.in_ok-e-in-InlineArray.ensures (rw (← c.from.ensures) c.min.ensures)

pub extent_of-returns-in_ok-l-in-Struct : goal.extent_of-returns-in_ok-l-in-Struct
extent_of-returns-in_ok-l-in-Struct t c =
    let is = ap measure c.in-Struct.is ∙ measure_struct c.in-Struct.s in
    standing_struct (measure c.args.shape.now) (measured c.in-Struct.s) c.in_ok-l-in-Struct.l is c.in_ok-l-in-Struct.ensures.value c.in_ok-l-in-Struct.ensures.align

pub extents_of-returns-in-Err-Outside : goal.extents_of-returns-in-Err-Outside
extents_of-returns-in-Err-Outside t c =
    let at = measure_at c.args.shapes.now c.loop-k.k c.index-shapes-k.result c.loop-k-test.true c.index-shapes-k.is in
    let outside : (measure c.index-shapes-k.result).stands ≡ false = rw c.in-Err-Outside.field-0-is at c.in-Err-Outside.ensures in
    let here = ap (λ (m : Measure). not m.stands) at ∙ ap not outside in
    let first = position_at (λ (m : Measure). not m.stands) (map measure c.args.shapes.now) c.loop-k.k (scalar 1 true)
    (omega (arith, length-map c.args.shapes.now measure)) c.loop-k.invariant.stand here in
    ap (option_map told) first ∙ ap Some (sym c.told.ensures)

pub extents_of-loop-k-preserved : goal.extents_of-loop-k-preserved
extents_of-loop-k-preserved t c =
    let at = measure_at c.args.shapes.now c.loop-k.k c.index-shapes-k.result c.loop-k-test.true c.index-shapes-k.is in
    let here = ap (λ (m : Measure). not m.stands) at ∙ ap not c.in-Ok.ensures.stands in
    record {
      stand = below_more _ _ c.loop-k.invariant.stand here;
      extents = extents_step _ _ _ c.loop-k.k c.args.shapes.now c.index-shapes-k.result c.in-Ok.e c.loop-k-test.true c.index-shapes-k.is
          c.in-Ok.ensures.extent c.in_ok-push-in-Ok.ensures.items c.loop-k.invariant.extents;
      aligns = subst (λ (es : List Extent). All (λ (e : Extent). IsTrue (is_align e.align)) es) (sym c.in_ok-push-in-Ok.ensures.items)
          (All-push (λ (e : Extent). IsTrue (is_align e.align)) _ _ c.loop-k.invariant.aligns c.in-Ok.ensures.align);
    }

pub extents_of-returns : goal.extents_of-returns
extents_of-returns t c = record {
  stand = position_none (λ (m : Measure). not m.stands) (map measure c.args.shapes.now) (scalar 1 true)
      (λ j h. c.loop-k.invariant.stand j (omega (arith, length-map c.args.shapes.now measure)));
  extents = extents_whole _ _ c.loop-k.k c.args.shapes.now (omega arith) c.loop-k.invariant.extents;
  aligns = c.loop-k.invariant.aligns;
}
