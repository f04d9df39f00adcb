use Rattle.marshal_spec.proofs.Grammar as grammar
use Rattle.marshal_spec.proofs.laws.bytes_spell_one.Goals as goal

pub returns : goal.returns
returns c = grammar.bytes_spell_one
