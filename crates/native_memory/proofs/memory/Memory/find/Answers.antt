use Rattle.std.proofs.Common.{arith, sym}
use Rattle.native_memory.proofs.Picks.{ascends}
use Rattle.native_memory.proofs.Addresses.{base_missing, base_found, base_past}
use Rattle.native_memory.proofs.memory.Memory.find.Goals as goal

pub last_not_above-requires : goal.last_not_above-requires
last_not_above-requires g c = ascends _ _ _ c.self.invariant.sound.apart

pub returns-in_err-it-clause-base : goal.returns-in_err-it-clause-base
returns-in_err-it-clause-base g c =
    rw (← c.self.view_is, c.from_residual.ensures) (sym (base_missing _ c.args.addr c.in_err-it.ensures.last))

pub returns-then-addr-it-clause-base : goal.returns-then-addr-it-clause-base
returns-then-addr-it-clause-base g c =
    rw (← c.self.view_is) (sym (base_found _ c.args.addr c.in_ok-it.it c.self.invariant.sound c.in_ok-it.ensures.last (omega (arith, c.in_ok-it.ensures.last.base))))

pub returns-else-addr-it-clause-base : goal.returns-else-addr-it-clause-base
returns-else-addr-it-clause-base g c =
    rw (← c.self.view_is) (sym (base_past _ c.args.addr c.in_ok-it.it c.self.invariant.sound c.in_ok-it.ensures.last (omega (arith, c.in_ok-it.ensures.last.base))))
