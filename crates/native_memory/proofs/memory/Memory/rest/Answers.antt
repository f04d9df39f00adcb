use Rattle.std.proofs.Common.{rules, ◌<◌, length, sym}
use Rattle.native_memory.proofs.Picks.{picked_within, picked_true}
use Rattle.native_memory.proofs.RangesFound.{rest_missing, rest_found}
use Rattle.native_memory.proofs.memory.Memory.rest.Goals as goal

pub returns-in_err-at : goal.returns-in_err-at
returns-in_err-at c = rw (c.from_residual.ensures) (sym (rest_missing c.args.self.now.space c.args.addr c.in_err-at.ensures))

pub index-requires : goal.index-requires
index-requires c =
    let within : c.in_ok-at.at < length c.self.inside.blocks.items = picked_within _ _ _ (rw (← c.self.view_is) at c.in_ok-at.ensures) in
    search rules

pub rest-requires-clause-covers : goal.rest-requires-clause-covers
rest-requires-clause-covers c =
    rw c.index.ensures (picked_true _ _ _ _ (rw (← c.self.view_is) at c.in_ok-at.ensures))

pub rest-requires-clause-whole : goal.rest-requires-clause-whole
rest-requires-clause-whole c =
    rw c.index.ensures (c.self.invariant.sound.whole c.in_ok-at.at _ (picked_within _ _ _ (rw (← c.self.view_is) at c.in_ok-at.ensures)))

pub returns : goal.returns
returns c =
    let found = rest_found c.args.self.now.space c.args.addr c.in_ok-at.at c.index.result.now c.in_ok-at.ensures in
    rw (found, ← c.self.view_is, ← c.index.ensures) c.rest.ensures
