use Rattle.native_layout.proofs.Ascending.{no_gaps}
use Rattle.native_layout.proofs.laws.packing_one_leaves_no_gaps.Goals as goal

pub returns : goal.returns
returns c = no_gaps
