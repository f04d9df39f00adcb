use Rattle.std.proofs.Common.{rules, ◌<◌, length, sym}
use Rattle.native_memory.specs.Placement.{stands_at}
use Rattle.native_memory.specs.InPlace.{is_in_place}
use Rattle.native_memory.proofs.Picks.{picked_within, fails_both, picked_both, unpicked_both}
use Rattle.native_memory.proofs.memory.Memory.in_place.Goals as goal

pub returns-in_err-at : goal.returns-in_err-at
returns-in_err-at c =
    rw c.from_residual.ensures (fails_both (stands_at c.args.base) (λ block. is_in_place block.kind) _ c.in_err-at.ensures)

pub index-requires : goal.index-requires
index-requires c =
    let within : c.in_ok-at.at < length c.self.inside.blocks.items = picked_within _ _ _ (rw (← c.self.view_is) at c.in_ok-at.ensures) in
    search rules

pub returns-then-is_in_place : goal.returns-then-is_in_place
returns-then-is_in_place c =
    picked_both (stands_at c.args.base) (λ block. is_in_place block.kind) _ _ c.index.result.now c.in_ok-at.ensures
    (rw (← c.self.view_is, ← c.index.ensures) (sym c.if-is_in_place.ensures))

pub returns-else-is_in_place : goal.returns-else-is_in_place
returns-else-is_in_place c =
    unpicked_both (stands_at c.args.base) (λ block. is_in_place block.kind) _ _ c.index.result.now c.in_ok-at.ensures
    (rw (← c.self.view_is, ← c.index.ensures) (sym c.if-is_in_place.ensures))
