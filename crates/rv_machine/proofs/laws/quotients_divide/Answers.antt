use Rattle.rv_machine.proofs.Quotients.{quotients_divide}
use Rattle.rv_machine.proofs.laws.quotients_divide.Goals as goal

pub returns : goal.returns
returns c = quotients_divide
