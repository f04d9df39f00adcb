use Rattle.cil_arith.proofs.Divided as proved
use Rattle.cil_arith.proofs.laws.least_by_minus_one_overflows.Goals as goal

pub returns : goal.returns
returns c = proved.least_by_minus_one_overflows
