use Rattle.std.proofs.Common.{◌++◌, ap, ◌∙◌}
use Rattle.image_kit.specs.AssemblyFile.{padded}
use Rattle.image_kit.proofs.PlanPieces.{bodies_grown}
use Rattle.image_kit.proofs.metadata_root.put_bodies.Goals as goal

pub loop-body-preserved : goal.loop-body-preserved
loop-body-preserved c =
    bodies_grown c.args.out.now c.loop-body.out c.put_padded.new.out c.args.bodies.now c.loop-body.body-index c.body-item.result c.loop-body-test.true c.body-item.is c.loop-body.invariant
    (c.in_ok-put_padded.ensures ∙ ap (λ xs. c.loop-body.out ++ padded xs) c.as_slice.ensures)
