use Rattle.native_heap.proofs.Freed.{new_blocks}
use Rattle.native_heap.proofs.laws.new_blocks_are_new.Goals as goal

pub returns : goal.returns
returns c = new_blocks
