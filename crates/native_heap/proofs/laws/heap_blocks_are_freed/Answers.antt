use Rattle.native_heap.proofs.Defined.{heap_freed}
use Rattle.native_heap.proofs.laws.heap_blocks_are_freed.Goals as goal

pub returns : goal.returns
returns c = heap_freed
