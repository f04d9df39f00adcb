use Rattle.marshal_spec.proofs.Written as written
use Rattle.marshal_spec.proofs.laws.written_is_read.Goals as goal

pub returns : goal.returns
returns c = written.written_is_read
