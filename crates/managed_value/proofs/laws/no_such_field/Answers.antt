use Rattle.managed_value.proofs.Within as within
use Rattle.managed_value.proofs.laws.no_such_field.Goals as goal

pub returns : goal.returns
returns c = within.no_such_field
