use Rattle.native_memory.proofs.Reached.{base_stays_free}
use Rattle.native_memory.proofs.laws.ended_bases_stay_free.Goals as goal

pub returns : goal.returns
returns c = base_stays_free
