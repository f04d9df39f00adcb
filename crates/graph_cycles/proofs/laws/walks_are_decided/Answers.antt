use Rattle.graph_cycles.proofs.Walks.{told, tells}
use Rattle.graph_cycles.proofs.laws.walks_are_decided.Goals as goal

pub returns : goal.returns
returns c = λ edges u w. (told edges u w, tells edges u w)
