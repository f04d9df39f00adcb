use Rattle.rv_decode.proofs.Worked.{worked_words}
use Rattle.rv_decode.proofs.examples.worked_words_are_instructions.Goals as goal

pub returns : goal.returns
returns c = worked_words
