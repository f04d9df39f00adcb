use Rattle.graph_cycles.proofs.Walks.{ranked}
use Rattle.graph_cycles.proofs.laws.ranks_rule_out_cycles.Goals as goal

pub returns : goal.returns
returns c = ranked
