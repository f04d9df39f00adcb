use Rattle.std.proofs.Common.{arith}
use Rattle.image_kit.proofs.PlanPieces.{sizes_more}
use Rattle.image_kit.proofs.plan_tables.bodies_size.Goals as goal

pub loop-body-preserved : goal.loop-body-preserved
loop-body-preserved c =
    let more = sizes_more c.args.bodies.now c.loop-body.body-index c.body-item.result c.loop-body-test.true c.body-item.is in
    omega (arith, more)
