use Rattle.std.proofs.Common.{rules, ◌<◌, length, refl}
use Rattle.native_memory.specs.Placement.{stands_at}
use Rattle.native_memory.proofs.Picks.{picked_within}
use Rattle.native_memory.proofs.Kept.{size_within, removed_kept}
use Rattle.native_memory.proofs.Changes.{ended_found, ended_missing}
use Rattle.native_memory.proofs.memory.Memory.end.Goals as goal

pub returns-in_default-clause-done : goal.returns-in_default-clause-done
returns-in_default-clause-done c = (ended_missing _ _ c.in_default.ensures, refl)

pub overflow_sub-self : goal.overflow_sub-self
overflow_sub-self c =
    let within = size_within c.args.self.now.space (stands_at c.args.base) c.in-Some.at c.in-Some-remove.gone c.in-Some.ensures in
    rw (c.size.ensures, c.self.invariant.live) (rw (← c.self.view_is, ← c.in-Some-remove.ensures.value) at within)

pub invariant_of-self : goal.invariant_of-self
invariant_of-self c =
    let picks = rw (← c.self.view_is) at c.in-Some.ensures in
    let kept = removed_kept _ _ c.in-Some.at c.in-Some-remove.gone c.self.inside.live c.self.invariant picks in
    rw (c.in-Some-remove.ensures.items, c.size.ensures) (rw (← c.in-Some-remove.ensures.value) at kept)

pub returns-in-Some-remove-clause-done : goal.returns-in-Some-remove-clause-done
returns-in-Some-remove-clause-done c =
    rw (ended_found c.args.self.now.space c.args.base c.in-Some.at c.in-Some.ensures, ← c.self.view_is, c.in-Some-remove.ensures.items) refl

pub returns-in-None : goal.returns-in-None
returns-in-None c =
    let within : c.in-Some.at < length c.self.inside.blocks.items = picked_within _ _ _ (rw (← c.self.view_is) at c.in-Some.ensures) in
    let some = c.in-None.ensures.variant.1 (search rules) in cc
