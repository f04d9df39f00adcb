use Rattle.native_heap.proofs.Freed.{only_heap}
use Rattle.native_heap.proofs.laws.only_heap_blocks_are_freed.Goals as goal

pub returns : goal.returns
returns c = only_heap
