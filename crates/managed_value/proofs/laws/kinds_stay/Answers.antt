use Rattle.managed_value.proofs.Within as within
use Rattle.managed_value.proofs.laws.kinds_stay.Goals as goal

pub returns : goal.returns
returns c = within.kinds_stay
