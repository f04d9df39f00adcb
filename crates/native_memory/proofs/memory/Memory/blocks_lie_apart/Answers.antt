use Rattle.native_memory.proofs.Apart.{lie_apart}
use Rattle.native_memory.proofs.memory.Memory.blocks_lie_apart.Goals as goal

pub returns-clause-apart : goal.returns-clause-apart
returns-clause-apart c = rw (← c.self.view_is) (lie_apart _ c.self.invariant.sound)
