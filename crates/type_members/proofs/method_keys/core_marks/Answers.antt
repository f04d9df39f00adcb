use Rattle.std.proofs.Common.{arith}
use Rattle.type_members.proofs.Marks.{all_core}
use Rattle.type_members.proofs.method_keys.core_marks.Goals as goal

pub returns : goal.returns
returns c = all_core c.args.types.now c.loop-place.place c.loop-place.marks (omega arith) c.loop-place.invariant
