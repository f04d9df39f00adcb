use Rattle.std.proofs.Common.{ap, ◌∙◌}
use Rattle.std.specs.Option.{unwrap_or}
use Rattle.image_kit.proofs.Pieces.{code_grown}
use Rattle.image_kit.proofs.library_file.put_code.Goals as goal

pub loop-instr-preserved : goal.loop-instr-preserved
loop-instr-preserved c =
    let word = c.unwrap_or.ensures ∙ ap (λ o. unwrap_or o 0) c.encode.ensures in
    code_grown c.args.out.now c.loop-instr.out c.put32.new.out c.unwrap_or.result c.args.code.now c.loop-instr.instr-index _ c.loop-instr-test.true c.loop-instr.invariant word c.in_ok-put32.ensures
