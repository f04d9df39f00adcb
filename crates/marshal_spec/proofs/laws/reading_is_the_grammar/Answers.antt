use Rattle.marshal_spec.proofs.Grammar as grammar
use Rattle.marshal_spec.proofs.laws.reading_is_the_grammar.Goals as goal

pub returns : goal.returns
returns c = grammar.reading_is_the_grammar
