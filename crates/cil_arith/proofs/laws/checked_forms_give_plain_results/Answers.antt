use Rattle.cil_arith.proofs.Plain as proved
use Rattle.cil_arith.proofs.laws.checked_forms_give_plain_results.Goals as goal

pub returns : goal.returns
returns c = proved.checked_forms_give_plain_results
