use Rattle.cil_arith.proofs.Outside as proved
use Rattle.cil_arith.proofs.laws.checked_conversions_overflow_outside.Goals as goal

pub returns : goal.returns
returns c = proved.checked_conversions_overflow_outside
