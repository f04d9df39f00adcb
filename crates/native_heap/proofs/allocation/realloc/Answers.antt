use Rattle.std.proofs.Common.{sym}
use Rattle.native_heap.proofs.Refusals.{refused}
use Rattle.native_heap.proofs.Moved.{realloc_wants}
use Rattle.native_heap.proofs.allocation.realloc.Goals as goal

pub returns-in_err-front-clause-err : goal.returns-in_err-front-clause-err
returns-in_err-front-clause-err c =
    refused _ _ _ c.from_residual.ensures.1
    (realloc_wants c.args.memory.now.space c.args.p c.args.size c.in-Some.bytes.now c.if-p-eq0.false (sym c.in-Some.ensures) c.blocks_lie_apart.ensures.sound)
