use Rattle.host_bridge.proofs.Endings.{symbol_runs_end}
use Rattle.host_bridge.proofs.laws.runs_end_in_three_ways.Goals as goal

pub returns : goal.returns
returns c = symbol_runs_end
