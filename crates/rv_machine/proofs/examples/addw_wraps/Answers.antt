use Rattle.std.proofs.Common.{refl}
use Rattle.native_memory.specs.Ranges.{bytes_at}
use Rattle.rv_decode.specs.Decoding.{decoded, op_32, op_32_base}
use Rattle.rv_machine.specs.Machine.{rv_step}
use Rattle.rv_machine.proofs.examples.addw_wraps.Goals as goal

pub returns : goal.returns
unfolding bytes_at decoded op_32 op_32_base rv_step
returns c = refl
