use Rattle.host_bridge.proofs.Parts.{ended_runs_stay}
use Rattle.host_bridge.proofs.laws.ended_runs_stay.Goals as goal

pub returns : goal.returns
returns c = ended_runs_stay
