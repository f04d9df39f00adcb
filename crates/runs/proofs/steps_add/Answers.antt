use Rattle.runs.proofs.StepsLaws as laws
use Rattle.runs.proofs.steps_add.Goals as goal

pub returns : goal.returns
returns g c = laws.steps_add g.M.HasRuns.machine
