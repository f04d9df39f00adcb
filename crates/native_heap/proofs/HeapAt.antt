-- A live heap block stands at an address, also after a block was placed and after a write.
use Rattle.std.proofs.Common.{◌≡◌, ◌∙◌, ℕ, nat_eq, Bool, true, false, cond, if◌then◌else◌, List, [], ◌∷◌, length, Option, Some, None, refl}
use Rattle.std.specs.Prelude.{is_some, option_and_then}
use Rattle.std.specs.List.{find}
use Rattle.native_memory.specs.AddressSpace.{Block, AddressSpace, changed, is_heap}
use Rattle.native_memory.specs.Ranges.{covers, may_write, bytes_at, write_in, with_written, written_at}
use Rattle.native_memory.specs.Placement.{stands_at, block_with, heap_block, ended}
use Rattle.native_memory.specs.Sound.{IsSound}
use Rattle.native_memory.specs.Changes.{OnlyHeapChanges}
use Rattle.native_memory.proofs.HeapChanges.{heap_block_ended}
use Rattle.native_heap.specs.Allocation.{heap_placed}
use Rattle.native_heap.proofs.Found.{find_appended, find_changed}
use Rattle.native_heap.proofs.Moved.{heap_made, heap_placed_is}

heap_if : (here : Bool) (addr : ℕ) (from : List ℕ) (block : Block) → is_heap (if here then write_in addr from block else block) ≡ is_heap block
heap_if true addr from block = refl
heap_if false addr from block = refl

stands_if : (here : Bool) (p addr : ℕ) (from : List ℕ) (block : Block) → stands_at p (if here then write_in addr from block else block) ≡ stands_at p block
stands_if true p addr from block = refl
stands_if false p addr from block = refl

-- a live heap block stands at p
pub record HasHeapAt (blocks : List Block) (p : ℕ) : Type 0 where
  pub block : Block
  pub found : find (stands_at p) blocks ≡ Some block
  pub heap : is_heap block ≡ true

heap_found_if : (heap : Bool) (found block : Block) → is_heap found ≡ heap → (if heap then Some found else None) ≡ Some block → is_heap found ≡ true
heap_found_if true found block is some = is
heap_found_if false found block is some = cc

has_heap_if : (found : Option Block) (blocks : List Block) (p : ℕ) (block : Block) → find (stands_at p) blocks ≡ found
    → option_and_then (λ block. if is_heap block then Some block else None) found ≡ Some block → HasHeapAt blocks p
has_heap_if None blocks p block is some = cc
has_heap_if (Some found) blocks p block is some = record { block = found; found = is; heap = heap_found_if (is_heap found) found block refl some }

pub has_heap : (space : AddressSpace) (p : ℕ) (block : Block) → heap_block space p ≡ Some block → HasHeapAt space.blocks p
unfolding block_with
has_heap space p block some = has_heap_if (find (stands_at p) space.blocks) space.blocks p block refl some

pub heap_placed_on : (old new : AddressSpace) (size p : ℕ) → heap_placed old size ≡ Some new → HasHeapAt old.blocks p → HasHeapAt new.blocks p
heap_placed_on old new size p is has = rw (heap_placed_is old new size is) (record {
  block = has.block;
  found = find_appended (stands_at p) old.blocks (heap_made old.next size ∷ []) has.block has.found;
  heap = has.heap;
})

heap_written_if : (none may : Bool) (old new : AddressSpace) (addr : ℕ) (from : List ℕ) (p : ℕ) → cond none (Some old) (cond may (Some (with_written old addr from)) None) ≡ Some new
    → HasHeapAt old.blocks p → HasHeapAt new.blocks p
heap_written_if true may old new addr from p is has = let same : old ≡ new = cc in rw (← same) has
heap_written_if false true old new addr from p is has =
    let same : with_written old addr from ≡ new = cc in
    let change : Block → Block = changed (covers addr (length from)) (write_in addr from) in
    let found = find_changed (stands_at p) change old.blocks (λ block. stands_if (covers addr (length from) block) p addr from block) in
    rw (← same) (record { block = change has.block; found = rw (found, has.found) refl; heap = heap_if (covers addr (length from) has.block) addr from has.block ∙ has.heap })
heap_written_if false false old new addr from p is has = cc

pub heap_written_on : (old new : AddressSpace) (addr : ℕ) (from : List ℕ) (p : ℕ) → written_at old addr from ≡ Some new → HasHeapAt old.blocks p → HasHeapAt new.blocks p
unfolding written_at
heap_written_on old new addr from p is has = heap_written_if (nat_eq (length from) 0) (is_some (bytes_at may_write old addr (length from))) old new addr from p is has

-- the block at p ends
pub heap_at_ended : (old new : AddressSpace) (p : ℕ) → IsSound old → HasHeapAt old.blocks p → ended old p ≡ Some new → OnlyHeapChanges old new
unfolding block_with
heap_at_ended old new p sound has is = heap_block_ended old new p has.block sound has.found has.heap is
