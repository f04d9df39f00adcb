use Rattle.runs.proofs.Simulations as laws
use Rattle.runs.proofs.more_fuel_is_the_same.Goals as goal

pub returns : goal.returns
returns g c = laws.more_fuel_is_the_same g.M.HasRuns.machine
