use Rattle.type_model.proofs.LawsOfTypes.{close_no_circle}
use Rattle.type_model.proofs.laws.accepted_types_close_no_circle.Goals as goal

pub returns : goal.returns
returns c = close_no_circle
