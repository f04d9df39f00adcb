use Rattle.graph_cycles.proofs.Walks.{joined}
use Rattle.graph_cycles.proofs.laws.walks_join.Goals as goal

pub returns : goal.returns
returns c = joined
