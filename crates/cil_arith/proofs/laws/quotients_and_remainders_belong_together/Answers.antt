use Rattle.cil_arith.proofs.Divided as proved
use Rattle.cil_arith.proofs.laws.quotients_and_remainders_belong_together.Goals as goal

pub returns : goal.returns
returns c = proved.quotients_and_remainders_belong_together
