use Rattle.std.proofs.Common.{rules, arith, ◌≡◌, ◌+◌, ◌≤◌, ℕ, List, length, drop}
use Rattle.std.specs.List.{count_by}
use Rattle.std.proofs.lemmas.List.{drop_all}
use Rattle.native_memory.specs.AddressSpace.{Block, is_heap, heap_blocks}
use Rattle.native_memory.proofs.memory.Memory.heap.Goals as goal

all_counted : (blocks : List Block) (count at : ℕ) → count + count_by is_heap (drop at blocks) ≡ count_by is_heap blocks → length blocks ≤ at → count ≡ count_by is_heap blocks
all_counted blocks count at so_far end =
    let counted : count + 0 ≡ count_by is_heap blocks = rw (drop_all at blocks end) at so_far in omega arith

pub returns : goal.returns
unfolding heap_blocks
returns c = rw (← c.self.view_is) (all_counted _ _ c.loop-at.at c.loop-at.invariant (search rules))
