use Rattle.managed_value.proofs.Within as within
use Rattle.managed_value.proofs.laws.put_is_there.Goals as goal

pub returns : goal.returns
returns c = within.put_is_there
