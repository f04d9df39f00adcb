use Rattle.host_run.proofs.Bounds.{commands_keep_bounds}
use Rattle.host_run.proofs.laws.commands_keep_bounds.Goals as goal

pub returns : goal.returns
returns c = commands_keep_bounds
