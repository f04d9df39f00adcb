use Rattle.cil_arith.proofs.Kept as proved
use Rattle.cil_arith.proofs.laws.conversions_give_numbers_of_the_target.Goals as goal

pub returns : goal.returns
returns c = proved.conversions_give_numbers_of_the_target
