use Rattle.native_heap.proofs.Defined.{wants_done}
use Rattle.native_heap.proofs.laws.wanting_calls_are_defined.Goals as goal

pub returns : goal.returns
returns c = wants_done
