use Rattle.rv_decode.proofs.Exact.{encodings_are_words}
use Rattle.rv_decode.proofs.laws.encodings_are_words.Goals as goal

pub returns : goal.returns
returns c = encodings_are_words
