use Rattle.std.proofs.Common.{rules, ◌<◌, length, Some, refl}
use Rattle.native_memory.specs.InPlace.{waits_at, with_contents}
use Rattle.native_memory.proofs.Picks.{picked_within}
use Rattle.native_memory.proofs.Kept.{set_kept, contents_keep, adopts_whole}
use Rattle.native_memory.proofs.Changes.{adopted_found, adopted_missing}
use Rattle.native_memory.proofs.memory.Memory.adopt.Goals as goal

pub index_mut-requires : goal.index_mut-requires
index_mut-requires c =
    let within : c.in-Some.at < length c.self.inside.blocks.items = picked_within _ _ _ (rw (← c.self.view_is) at c.in-Some.ensures) in
    search rules

pub invariant_of-self : goal.invariant_of-self
invariant_of-self c =
    let picks = rw (← c.self.view_is, c.len-len.ensures) at c.in-Some.ensures in
    rw (c.replace.ensures.new, c.into_vec.ensures, c.index_mut.ensures.value)
    (set_kept _ (waits_at c.args.base (length c.args.body)) (with_contents (Some c.args.body)) c.in-Some.at c.index_mut.result.now c.self.inside.live
    c.self.invariant picks (contents_keep (Some c.args.body)) (adopts_whole c.args.base c.args.body))

pub returns-in-Some-clause-done : goal.returns-in-Some-clause-done
returns-in-Some-clause-done c =
    let picks = rw (c.len-len.ensures) at c.in-Some.ensures in
    rw (
      adopted_found c.args.self.now.space c.args.base c.args.body c.in-Some.at c.index_mut.result.now picks,
      ← c.self.view_is,
      c.replace.ensures.new,
      c.into_vec.ensures,
      ← c.index_mut.ensures.value,
    ) refl

pub returns-in-None-clause-refused : goal.returns-in-None-clause-refused
returns-in-None-clause-refused c =
    adopted_missing c.args.self.now.space c.args.base c.args.body (rw (c.len-len.ensures) at c.in-None.ensures)
