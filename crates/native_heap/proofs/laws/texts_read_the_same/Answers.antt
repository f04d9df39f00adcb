use Rattle.native_heap.proofs.TextsCopied.{texts_copied}
use Rattle.native_heap.proofs.laws.texts_read_the_same.Goals as goal

pub returns : goal.returns
returns c = texts_copied
