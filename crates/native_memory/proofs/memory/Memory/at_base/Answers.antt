use Rattle.native_memory.proofs.Picks.{ascends, asks_base, fails_above, picked, unpicked, is_base, is_no_base}
use Rattle.native_memory.proofs.memory.Memory.at_base.Goals as goal

pub last_at-requires : goal.last_at-requires
last_at-requires c = ascends _ _ _ c.self.invariant.sound.apart

pub returns-in_err-it : goal.returns-in_err-it
returns-in_err-it c =
    rw (← c.self.view_is, c.from_residual.ensures) (fails_above _ c.args.base _ (asks_base c.args.base) c.in_err-it.ensures)

pub returns-then-it-base : goal.returns-then-it-base
returns-then-it-base c =
    rw (← c.self.view_is) (picked _ c.args.base _ _ _ c.in_ok-it.it (asks_base c.args.base) c.self.invariant.sound.apart c.in_ok-it.ensures
    (is_base c.args.base c.in_ok-it.it.base c.in_ok-it.it.size c.if-it-base.true))

pub returns-else-it-base : goal.returns-else-it-base
returns-else-it-base c =
    rw (← c.self.view_is) (unpicked _ c.args.base _ _ _ c.in_ok-it.it (asks_base c.args.base) c.self.invariant.sound.apart c.in_ok-it.ensures
    (is_no_base c.args.base c.in_ok-it.it.base c.in_ok-it.it.size c.if-it-base.false))
