use Rattle.rv_decode.proofs.Exact.{encodings_differ}
use Rattle.rv_decode.proofs.laws.encodings_differ.Goals as goal

pub returns : goal.returns
returns c = encodings_differ
