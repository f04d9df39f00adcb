use Rattle.cil_unwind.proofs.Search.{handlers_first}
use Rattle.cil_unwind.proofs.laws.handlers_are_first.Goals as goal

pub returns : goal.returns
returns c = handlers_first
