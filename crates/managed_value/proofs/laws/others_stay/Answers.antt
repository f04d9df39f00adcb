use Rattle.managed_value.proofs.Within as within
use Rattle.managed_value.proofs.laws.others_stay.Goals as goal

pub returns : goal.returns
returns c = within.others_stay
