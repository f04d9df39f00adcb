use Rattle.std.proofs.Common.{◌+◌, All, List, drop, sym, ◌∙◌, ap, subst}
use Rattle.std.proofs.lemmas.List.Elements.{All-push}
use Rattle.native_layout.specs.declared.outlines.Outline.{Outline}
use Rattle.native_layout.specs.Outlines.{IsSound}
use Rattle.stub_maker.specs.Learned.{known_so_far}
use Rattle.stub_maker.proofs.FieldOutlines.{fields_step, fields_stop, outlines_after}
use Rattle.stub_maker.proofs.learning.field_outlines.Goals as goal

pub returns-in-None-clause-value : goal.returns-in-None-clause-value
returns-in-None-clause-value c =
    fields_stop (known_so_far c.args.known.now) c.args.fields.now c.loop-field.field-index _ _ c.loop-field.outlines c.loop-field-test.true c.in-None.ensures.value c.loop-field.invariant.value

pub loop-field-preserved : goal.loop-field-preserved
loop-field-preserved c =
    let pushed = c.in_ok-push-in-Some.ensures.ok in
    let step = fields_step (known_so_far c.args.known.now) c.args.fields.now c.loop-field.field-index _ _ c.loop-field.outlines c.in-Some.outline c.loop-field-test.true c.in-Some.ensures.value c.loop-field.invariant.value in
    record {
      value = step ∙ ap (λ (os : List Outline). outlines_after (known_so_far c.args.known.now) os (drop (c.loop-field.field-index + 1) c.args.fields.now)) (sym pushed);
      sound = subst (λ (os : List Outline). All IsSound os) (sym pushed) (All-push IsSound _ _ c.loop-field.invariant.sound c.in-Some.ensures.sound);
    }
