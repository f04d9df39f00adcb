use Rattle.runs.proofs.StepsLaws as laws
use Rattle.runs.proofs.ended_runs_stay.Goals as goal

pub returns : goal.returns
returns g c = laws.ended_runs_stay g.M.HasRuns.machine
