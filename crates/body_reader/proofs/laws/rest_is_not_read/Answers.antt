use Rattle.body_reader.proofs.Rest.{rest_not_read}
use Rattle.body_reader.proofs.laws.rest_is_not_read.Goals as goal

pub returns : goal.returns
returns c = rest_not_read
