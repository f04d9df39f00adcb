use Rattle.cil_arith.proofs.Outside as proved
use Rattle.cil_arith.proofs.laws.checked_forms_overflow_outside.Goals as goal

pub returns : goal.returns
returns c = proved.checked_forms_overflow_outside
