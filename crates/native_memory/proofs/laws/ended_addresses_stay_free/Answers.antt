use Rattle.native_memory.proofs.Reached.{stays_free}
use Rattle.native_memory.proofs.laws.ended_addresses_stay_free.Goals as goal

pub returns : goal.returns
returns c = stays_free
