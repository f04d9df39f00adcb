use Rattle.host_bridge.proofs.Parts.{runs_end}
use Rattle.host_bridge.proofs.laws.runs_end.Goals as goal

pub returns : goal.returns
returns c = runs_end
