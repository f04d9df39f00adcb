use Rattle.byte_view.proofs.Sound as proved
use Rattle.byte_view.proofs.laws.types_have_runs.Goals as goal

pub returns : goal.returns
returns c = proved.types_have_runs
