use Rattle.rv_decode.proofs.Exact.{decoded_is_encoded}
use Rattle.rv_decode.proofs.laws.decoded_is_encoded.Goals as goal

pub returns : goal.returns
returns c = decoded_is_encoded
