use Rattle.cil_arith.proofs.Compared as proved
use Rattle.cil_arith.proofs.laws.comparisons_have_opposites.Goals as goal

pub returns : goal.returns
returns c = proved.comparisons_have_opposites
