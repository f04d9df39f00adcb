use Rattle.marshal_spec.proofs.Grammar as grammar
use Rattle.marshal_spec.proofs.laws.refused_by_front.Goals as goal

pub returns : goal.returns
returns c = grammar.refused_by_front
