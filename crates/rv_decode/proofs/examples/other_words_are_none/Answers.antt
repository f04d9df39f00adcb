use Rattle.rv_decode.proofs.Worked.{words_of_none}
use Rattle.rv_decode.proofs.examples.other_words_are_none.Goals as goal

pub returns : goal.returns
returns c = words_of_none
