use Rattle.std.proofs.Common.{rules, ◌<◌, length, refl}
use Rattle.native_memory.specs.Ranges.{covers, write_in}
use Rattle.native_memory.proofs.Picks.{picked_within, picked_true}
use Rattle.native_memory.proofs.Kept.{set_kept, writes_keep, writes_whole}
use Rattle.native_memory.proofs.Changes.{written_none, written_found, written_missing}
use Rattle.native_memory.proofs.memory.Memory.write.Goals as goal

pub returns-then-len-eq0-clause-ok : goal.returns-then-len-eq0-clause-ok
returns-then-len-eq0-clause-ok c = written_none c.args.self.now.space c.args.addr c.args.from.now (search rules)

pub index_mut-requires : goal.index_mut-requires
index_mut-requires c =
    let within : c.in-Some.at < length c.self.inside.blocks.items = picked_within _ _ _ (rw (← c.self.view_is) at c.in-Some.ensures.0) in
    search rules

pub write-requires-clause-covers : goal.write-requires-clause-covers
write-requires-clause-covers c =
    let picks = rw (← c.self.view_is) at c.in-Some.ensures.0 in
    rw c.index_mut.ensures.value (picked_true _ _ _ _ picks)

pub write-requires-clause-whole : goal.write-requires-clause-whole
write-requires-clause-whole c =
    rw c.index_mut.ensures.value (c.self.invariant.sound.whole c.in-Some.at _ (picked_within _ _ _ (rw (← c.self.view_is) at c.in-Some.ensures.0)))

pub invariant_of-self : goal.invariant_of-self
invariant_of-self c =
    let picks = rw (← c.self.view_is) at c.in-Some.ensures.0 in
    rw (c.write.ensures, c.index_mut.ensures.value)
    (set_kept _ (covers c.args.addr (length c.args.from.now)) (write_in c.args.addr c.args.from.now) c.in-Some.at c.index_mut.result.now c.self.inside.live
    c.self.invariant picks (writes_keep c.args.addr c.args.from.now) (writes_whole c.args.addr c.args.from.now))

pub returns-in-Some-clause-ok : goal.returns-in-Some-clause-ok
returns-in-Some-clause-ok c =
    rw (
      written_found c.args.self.now.space c.args.addr c.args.from.now c.in-Some.at c.index_mut.result.now c.if-len-eq0.false c.in-Some.ensures,
      ← c.self.view_is,
      c.write.ensures,
      ← c.index_mut.ensures.value,
    ) refl

pub returns-in-None-clause-err : goal.returns-in-None-clause-err
returns-in-None-clause-err c = written_missing c.args.self.now.space c.args.addr c.args.from.now c.if-len-eq0.false c.in-None.ensures
