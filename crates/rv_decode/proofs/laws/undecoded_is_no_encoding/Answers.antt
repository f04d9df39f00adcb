use Rattle.rv_decode.proofs.Exact.{undecoded_is_no_encoding}
use Rattle.rv_decode.proofs.laws.undecoded_is_no_encoding.Goals as goal

pub returns : goal.returns
returns c = undecoded_is_no_encoding
