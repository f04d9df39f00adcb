use Rattle.std.proofs.Common.{rules, ◌<◌, length, refl}
use Rattle.native_memory.proofs.Picks.{picked_within}
use Rattle.native_memory.proofs.Addresses.{with_missing, with_found}
use Rattle.native_memory.proofs.Changes.{heap_contents_of}
use Rattle.native_memory.proofs.memory.Memory.heap_contents.Goals as goal

pub returns-in_err-at : goal.returns-in_err-at
returns-in_err-at c = rw (c.from_residual.ensures, with_missing c.args.self.now.space c.args.base c.in_err-at.ensures) refl

pub index-requires : goal.index-requires
index-requires c =
    let within : c.in_ok-at.at < length c.self.inside.blocks.items = picked_within _ _ _ (rw (← c.self.view_is) at c.in_ok-at.ensures) in
    search rules

pub returns : goal.returns
returns c =
    let found = with_found c.args.self.now.space c.args.base c.in_ok-at.at c.index.result.now c.in_ok-at.ensures in
    rw (found, ← c.self.view_is, ← c.index.ensures) (rw c.heap_contents.ensures (heap_contents_of c.index.result.now))
