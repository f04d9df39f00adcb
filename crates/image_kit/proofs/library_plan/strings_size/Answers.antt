use Rattle.std.proofs.Common.{arith}
use Rattle.image_kit.proofs.Pieces.{size_more}
use Rattle.image_kit.proofs.library_plan.strings_size.Goals as goal

pub loop-place-preserved : goal.loop-place-preserved
loop-place-preserved c =
    let more = size_more c.args.names.now c.loop-place.place-index c.place-item.result c.loop-place-test.true c.place-item.is in
    omega arith
