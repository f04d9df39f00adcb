use Rattle.std.proofs.Common.{arith}
use Rattle.native_memory.proofs.Picks.{ascends, asks_covers, fails_above, picked, unpicked, is_covered, is_past, is_beyond}
use Rattle.native_memory.proofs.memory.Memory.covering.Goals as goal
use Rattle.native_memory.proofs.memory.Memory.covering.Goals.{else-start-it-via-then-start-it+else-len-it, else-start-it-via-else-start-it}

pub last_at-requires : goal.last_at-requires
last_at-requires c = ascends _ _ _ c.self.invariant.sound.apart

pub returns-in_err-it : goal.returns-in_err-it
returns-in_err-it c =
    rw (← c.self.view_is, c.from_residual.ensures) (fails_above _ c.args.addr _ (asks_covers c.args.addr c.args.len c.requires) c.in_err-it.ensures)

pub returns-then-len-it : goal.returns-then-len-it
returns-then-len-it c =
    rw (← c.self.view_is) (picked _ c.args.addr _ _ _ c.in_ok-it.it (asks_covers c.args.addr c.args.len c.requires) c.self.invariant.sound.apart
    c.in_ok-it.ensures (is_covered c.args.addr c.args.len c.in_ok-it.it.base c.in_ok-it.it.size c.in_ok-it.ensures.base (omega arith) (omega arith)))

pub returns-else-start-it : goal.returns-else-start-it
returns-else-start-it c =
    rw (← c.self.view_is) (unpicked _ c.args.addr _ _ _ c.in_ok-it.it (asks_covers c.args.addr c.args.len c.requires) c.self.invariant.sound.apart
    c.in_ok-it.ensures
    (elim c.else-start-it.branch [
      | else-start-it-via-then-start-it+else-len-it w ↦
          is_past c.args.addr c.args.len c.in_ok-it.it.base c.in_ok-it.it.size c.in_ok-it.ensures.base w.if-len-it.false c.requires
      | else-start-it-via-else-start-it w ↦
          is_beyond c.args.addr c.args.len c.in_ok-it.it.base c.in_ok-it.it.size c.in_ok-it.ensures.base w.if-start-it.false
    ]))
