use Rattle.cil_arith.proofs.Compared as proved
use Rattle.cil_arith.proofs.laws.equal_numbers_have_one_value.Goals as goal

pub returns : goal.returns
returns c = proved.equal_numbers_have_one_value
