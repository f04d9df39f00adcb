use Rattle.cil_unwind.proofs.Search.{searches_forward}
use Rattle.cil_unwind.proofs.laws.searches_go_forward.Goals as goal

pub returns : goal.returns
returns c = searches_forward
