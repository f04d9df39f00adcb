use Rattle.type_model.proofs.Unsound.{found_on, none_on}
use Rattle.type_model.proofs.part.first_on.Goals as goal

pub returns-in-Some : goal.returns-in-Some
returns-in-Some c =
    λ n few. found_on c.args.edges.now c.in-Some.node n (rw c.in-Some.is at c.in_ok-node.ensures.found) c.requires

pub returns-in-None : goal.returns-in-None
returns-in-None c = λ n few. none_on c.args.edges.now n (rw c.in-None.is at c.in_ok-node.ensures.none) few
