use Rattle.native_heap.proofs.CallsKeep.{calls_keep}
use Rattle.native_heap.proofs.laws.calls_keep_others.Goals as goal

pub returns : goal.returns
returns c = calls_keep
