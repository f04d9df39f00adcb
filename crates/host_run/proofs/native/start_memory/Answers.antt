use Rattle.host_run.proofs.StartMemory.{has-room-for-errno, has-room-for-stack, both-placed}
use Rattle.host_run.proofs.native.start_memory.Goals as goal

pub place_first-requires : goal.place_first-requires
place_first-requires c = has-room-for-errno c.standard_limits-limits.result c.new-memory.result.space c.standard_limits-limits.ensures c.new-memory.ensures.space

pub place_first-requires-2 : goal.place_first-requires-2
place_first-requires-2 c =
    has-room-for-stack c.standard_limits-limits.result c.new-memory.result.space c.standard_limits-limits.ensures c.new-memory.ensures.space c.place_first.new.memory.space c.in_ok-place_first.ensures

pub returns : goal.returns
returns c =
    both-placed c.standard_limits-limits.result c.new-memory.result.space c.standard_limits-limits.ensures c.new-memory.ensures.space c.place_first.new.memory.space c.place_first-2.new.memory.space c.in_ok-place_first.ensures c.in_ok-place_first-2.ensures
