use Rattle.native_memory.proofs.WrittenBytes.{written_bytes}
use Rattle.native_memory.proofs.laws.writes_change_their_range.Goals as goal

pub returns : goal.returns
returns c = written_bytes
