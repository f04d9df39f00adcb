use Rattle.cil_arith.proofs.Complements as proved
use Rattle.cil_arith.proofs.laws.negations_and_complements.Goals as goal

pub returns : goal.returns
returns c = proved.negations_and_complements
