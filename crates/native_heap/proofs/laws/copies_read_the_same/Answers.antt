use Rattle.native_heap.proofs.ReadBack.{copies_back}
use Rattle.native_heap.proofs.laws.copies_read_the_same.Goals as goal

pub returns : goal.returns
returns c = copies_back
