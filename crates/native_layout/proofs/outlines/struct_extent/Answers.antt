use Rattle.std.proofs.Common.{◌≤◌, ◌^◌, IsTrue, List, All, sym, ◌∙◌, subst, arith}
use Rattle.std.proofs.lemmas.List.Elements.{All-map, All-weaker}
use Rattle.native_layout.specs.declared.extent.Extent.{Extent}
use Rattle.native_layout.specs.declared.outlines.Outline.{Outline}
use Rattle.native_layout.specs.Struct.{is_align}
use Rattle.native_layout.specs.Outlines.{IsSound}
use Rattle.native_layout.proofs.Standing.{AreStanding, fallen_extent, laid_extent, outside_extent}
use Rattle.native_layout.proofs.outlines.struct_extent.Goals as goal

pub returns-then-not-all_stand-clause-value : goal.returns-then-not-all_stand-clause-value
returns-then-not-all_stand-clause-value c = λ shapes is.
    fallen_extent c.args.rules c.args.offsets.now c.args.fields.now shapes is (sym c.all_stand.ensures ∙ grind arith)

pub place-requires-clause-aligns : goal.place-requires-clause-aligns
place-requires-clause-aligns c =
    subst (λ (es : List Extent). All (λ (e : Extent). IsTrue (is_align e.align)) es) (sym (c.as_slice.ensures.value ∙ c.in_ok-extents.ensures))
    (All-map (λ (e : Extent). IsTrue (is_align e.align)) (λ (o : Outline). o.extent) c.args.fields.now
    (All-weaker (λ (o : Outline). IsSound o) (λ (o : Outline). IsTrue (is_align o.extent.align)) (λ o s. s.extent.align) c.args.fields.now c.requires.sound))

pub place-requires-clause-sizes : goal.place-requires-clause-sizes
place-requires-clause-sizes c =
    subst (λ (es : List Extent). All (λ (e : Extent). e.size ≤ 2 ^ 32) es) (sym (c.as_slice.ensures.value ∙ c.in_ok-extents.ensures))
    (All-map (λ (e : Extent). e.size ≤ 2 ^ 32) (λ (o : Outline). o.extent) c.args.fields.now
    (All-weaker (λ (o : Outline). IsSound o) (λ (o : Outline). o.extent.size ≤ 2 ^ 32) (λ o s. s.extent.size) c.args.fields.now c.requires.sound))

pub returns-in-Ok-clause-value : goal.returns-in-Ok-clause-value
returns-in-Ok-clause-value c = λ shapes is.
    let are : AreStanding c.args.rules c.args.fields.now c.as_slice.result.now = record {
      overlap = c.requires.overlap;
      stand = sym c.all_stand.ensures ∙ grind arith;
      extents = c.as_slice.ensures.value ∙ c.in_ok-extents.ensures;
    } in
    laid_extent c.args.rules c.args.offsets.now c.args.fields.now c.as_slice.result.now c.in-Ok.laid shapes is are c.in-Ok.ensures.value c.in-Ok.ensures.align

pub returns-in-Err-Outside-clause-value : goal.returns-in-Err-Outside-clause-value
returns-in-Err-Outside-clause-value c = λ shapes is.
    let are : AreStanding c.args.rules c.args.fields.now c.as_slice.result.now = record {
      overlap = c.requires.overlap;
      stand = sym c.all_stand.ensures ∙ grind arith;
      extents = c.as_slice.ensures.value ∙ c.in_ok-extents.ensures;
    } in
    let answers = rw c.in-Err-Outside.field-0-is at c.in-Err-Outside.ensures.value in
    outside_extent c.args.rules c.args.offsets.now c.args.fields.now c.as_slice.result.now c.in-Err-Outside.field-0-0 shapes is are answers
