use Rattle.cil_arith.proofs.Divided as proved
use Rattle.cil_arith.proofs.laws.divisors_of_zero_divide_by_zero.Goals as goal

pub returns : goal.returns
returns c = proved.divisors_of_zero_divide_by_zero
