use Rattle.std.proofs.Common.{refl, arith}
use Rattle.std.proofs.lemmas.Bool.{false≢true}
use Rattle.image_kit.proofs.Fitting.{free_more, not_all_free}
use Rattle.image_kit.proofs.library_plan.names_have_no_zero.Goals as goal

pub returns-then-has_zero : goal.returns-then-has_zero
returns-then-has_zero c =
    (λ e. absurd (false≢true e), not_all_free c.args.names.now c.loop-place.place-index c.place-item.result c.as_slice.result.now c.loop-place-test.true c.place-item.is c.as_slice.ensures (c.if-has_zero.ensures.0 refl))

pub loop-place-preserved : goal.loop-place-preserved
loop-place-preserved c =
    free_more c.args.names.now c.loop-place.place-index c.place-item.result c.as_slice.result.now c.loop-place.invariant c.loop-place-test.true c.place-item.is c.as_slice.ensures c.if-has_zero.ensures.1

pub returns : goal.returns
returns c = (λ e k d h. c.loop-place.invariant k d (omega arith), λ all. refl)
