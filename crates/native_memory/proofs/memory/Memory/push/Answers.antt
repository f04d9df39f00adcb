use Rattle.native_memory.proofs.Kept.{with_block_kept}
use Rattle.native_memory.proofs.memory.Memory.push.Goals as goal

pub invariant_of-self-2 : goal.invariant_of-self-2
invariant_of-self-2 c =
    rw (c.in_ok-push_back.ensures.items, c.in_ok-block.ensures, c.max.ensures)
    (with_block_kept _ _ c.args.next c.self.inside.live c.self.invariant (rw (← c.self.view_is) at c.requires.behind) c.requires.end c.requires.whole
    (rw (← c.self.view_is) at c.requires.room))
