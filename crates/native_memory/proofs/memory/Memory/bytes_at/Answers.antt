use Rattle.std.proofs.Common.{rules, ◌<◌, length, refl, sym}
use Rattle.native_memory.specs.Ranges.{right_of}
use Rattle.native_memory.proofs.Picks.{picked_within, picked_true}
use Rattle.native_memory.proofs.RangesFound.{bytes_none, bytes_missing, bytes_found}
use Rattle.native_memory.proofs.memory.Memory.bytes_at.Goals as goal

pub returns-then-len-eq0-clause-value : goal.returns-then-len-eq0-clause-value
returns-then-len-eq0-clause-value c = rw (bytes_none _ c.args.self.now.space c.args.addr c.args.len c.if-len-eq0.true) refl

pub returns-in_err-at-clause-value : goal.returns-in_err-at-clause-value
returns-in_err-at-clause-value c =
    rw (c.from_residual.ensures) (sym (bytes_missing _ c.args.self.now.space c.args.addr c.args.len c.if-len-eq0.false c.in_err-at.ensures))

pub index-requires : goal.index-requires
index-requires c =
    let within : c.in_ok-at.at < length c.self.inside.blocks.items = picked_within _ _ _ (rw (← c.self.view_is) at c.in_ok-at.ensures) in
    search rules

pub part-requires-clause-covers : goal.part-requires-clause-covers
part-requires-clause-covers c =
    rw c.index.ensures (picked_true _ _ _ _ (rw (← c.self.view_is) at c.in_ok-at.ensures))

pub part-requires-clause-whole : goal.part-requires-clause-whole
part-requires-clause-whole c =
    rw c.index.ensures (c.self.invariant.sound.whole c.in_ok-at.at _ (picked_within _ _ _ (rw (← c.self.view_is) at c.in_ok-at.ensures)))

pub returns-clause-value : goal.returns-clause-value
returns-clause-value c =
    let found = bytes_found (right_of c.args.access) c.args.self.now.space c.args.addr c.args.len c.in_ok-at.at c.index.result.now c.if-len-eq0.false c.in_ok-at.ensures in
    rw (found, ← c.self.view_is, ← c.index.ensures) c.part.ensures.value
