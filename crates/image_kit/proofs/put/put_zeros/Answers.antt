use Rattle.image_kit.proofs.PlanPieces.{zeros_grown}
use Rattle.image_kit.proofs.put.put_zeros.Goals as goal

pub loop-preserved : goal.loop-preserved
loop-preserved c = zeros_grown c.args.out.now c.loop.out c.push.new.self c.loop.counter c.loop.invariant c.in_ok-push.ensures.ok
