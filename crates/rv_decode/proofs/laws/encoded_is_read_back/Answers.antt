use Rattle.rv_decode.proofs.Exact.{encoded_is_read_back}
use Rattle.rv_decode.proofs.laws.encoded_is_read_back.Goals as goal

pub returns : goal.returns
returns c = encoded_is_read_back
