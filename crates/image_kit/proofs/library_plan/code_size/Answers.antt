use Rattle.std.proofs.Common.{arith}
use Rattle.image_kit.proofs.CodeSizes.{code_size_more}
use Rattle.image_kit.proofs.library_plan.code_size.Goals as goal

pub loop-instr-preserved : goal.loop-instr-preserved
loop-instr-preserved c =
    let more = code_size_more c.args.code.now c.loop-instr.instr-index c.loop-instr-test.true in
    omega (arith, more)
