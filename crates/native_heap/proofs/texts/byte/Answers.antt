use Rattle.std.proofs.Common.{sym}
use Rattle.native_heap.proofs.Readable.{none_readable, next_readable, low_readable}
use Rattle.native_heap.proofs.texts.byte.Goals as goal

pub returns-in_err-bytes-clause-value : goal.returns-in_err-bytes-clause-value
returns-in_err-bytes-clause-value c = rw c.from_residual.ensures (none_readable c.args.memory.now.space c.args.addr (sym c.in_err-bytes.ensures.value))

pub returns-clause-value : goal.returns-clause-value
returns-clause-value c = next_readable c.args.memory.now.space c.args.addr c.in_ok-bytes.bytes.now c.blocks_lie_apart.ensures.sound (sym c.in_ok-bytes.ensures.value)

pub returns-clause-low : goal.returns-clause-low
returns-clause-low c = low_readable c.args.memory.now.space c.args.addr c.in_ok-bytes.bytes.now c.blocks_lie_apart.ensures.sound (sym c.in_ok-bytes.ensures.value)
