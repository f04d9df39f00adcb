use Rattle.cil_arith.proofs.Kept as proved
use Rattle.cil_arith.proofs.laws.checked_conversions_keep_the_number.Goals as goal

pub returns : goal.returns
returns c = proved.checked_conversions_keep_the_number
