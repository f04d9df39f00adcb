use Rattle.rv_decode.proofs.Exact.{fences_keep_fields}
use Rattle.rv_decode.proofs.laws.fences_keep_fields.Goals as goal

pub returns : goal.returns
returns c = fences_keep_fields
