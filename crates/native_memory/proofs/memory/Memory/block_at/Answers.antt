use Rattle.std.proofs.Common.{rules, ◌<◌, length, refl}
use Rattle.native_memory.proofs.Picks.{picked_within}
use Rattle.native_memory.proofs.Addresses.{with_missing, with_found}
use Rattle.native_memory.proofs.memory.Memory.block_at.Goals as goal

pub returns-in_err-at : goal.returns-in_err-at
returns-in_err-at c = rw (c.from_residual.ensures, with_missing c.args.self.now.space c.args.base c.in_err-at.ensures) refl

pub index-block-requires : goal.index-block-requires
index-block-requires c =
    let within : c.in_ok-at.at < length c.self.inside.blocks.items = picked_within _ _ _ (rw (← c.self.view_is) at c.in_ok-at.ensures) in
    search rules

pub returns : goal.returns
returns c =
    let found = with_found c.args.self.now.space c.args.base c.in_ok-at.at c.index-block.result.now c.in_ok-at.ensures in
    rw (found, ← c.self.view_is, ← c.index-block.ensures, c.size.ensures, c.rights.ensures, c.kind.ensures) refl
