-- Laws of the host functions.
use Rattle.std.specs.Prelude.{◌≡◌, ◌≢◌, ℕ, true, false, List, length, replicate, slice_index}
use Rattle.std.specs.Prelude.{Option, Some, None, IsSome, All, option_map}
use Rattle.native_memory.specs.AddressSpace.{Block, AddressSpace, is_heap}
use Rattle.native_memory.specs.Ranges.{may_read, bytes_at, rest_at}
use Rattle.native_memory.specs.Placement.{block_with, heap_block}
use Rattle.native_memory.specs.Sound.{IsSound}
use Rattle.native_memory.specs.Changes.{OnlyHeapChanges}
use Rattle.native_heap.specs.Outcome.{Outcome}
use Rattle.native_heap.specs.Allocation.{malloc, realloc, free}
use Rattle.native_heap.specs.Bytes.{memmove}
use Rattle.native_heap.specs.Texts.{text_at, strcpy}
use Rattle.native_heap.specs.Calls.{called, wants_memory}

-- a range that was copied reads as the other did before, also where they overlap
abbrev pub CopiesReadTheSame : Type 0
CopiesReadTheSame =
    (old new : AddressSpace) (to from len answer : ℕ) → IsSound old
    → memmove old to from len ≡ Some (answer, new) → IsSome (bytes_at may_read new to len)
    → bytes_at may_read new to len ≡ bytes_at may_read old from len

-- and a text as the other did
abbrev pub TextsReadTheSame : Type 0
TextsReadTheSame =
    (old new : AddressSpace) (to from answer : ℕ) → IsSound old
    → strcpy old to from ≡ Some (answer, new) → IsSome (rest_at new to)
    → text_at new to ≡ text_at old from

-- the blocks after a function was done
abbrev pub blocks_after : Outcome → Option (List Block)
blocks_after outcome = option_map (λ done. done.1.blocks) outcome

-- a new block's base was none before, and it holds zeros; freed at once, it leaves the blocks that
-- there were
pub record IsNewBlock (old new : AddressSpace) (p size : ℕ) : Type 0 where
  pub fresh : block_with old p ≡ None
  pub zeros : bytes_at may_read new p size ≡ Some (replicate size 0)
  pub undone : blocks_after (free new p) ≡ Some old.blocks

abbrev pub NewBlocksAreNew : Type 0
NewBlocksAreNew =
    (old new : AddressSpace) (p size : ℕ) → IsSound old → malloc old size ≡ Some (p, new) → p ≢ 0
    → IsNewBlock old new p size

-- no live heap block has this base
abbrev pub IsNoHeapBase : AddressSpace → ℕ → Type 0
IsNoHeapBase space p = All (λ block. block.base ≡ p → is_heap block ≡ false) space.blocks

-- what isn't 0 or the base of a live heap block can't be freed, nor be moved
abbrev pub OnlyHeapBlocksAreFreed : Type 0
OnlyHeapBlocksAreFreed =
    (space : AddressSpace) (p size : ℕ) → p ≢ 0 → IsNoHeapBase space p
    → (free space p ≡ None) × (realloc space p size ≡ None)

-- what is the base of a live heap block can, whatever the block's rights
abbrev pub HeapBlocksAreFreed : Type 0
HeapBlocksAreFreed =
    (space : AddressSpace) (p size : ℕ) → IsSound space → IsSome (heap_block space p)
    → IsSome (free space p) × IsSome (realloc space p size)

-- a call changes no register but a0, and of memory heap blocks alone, apart from bytes
pub record KeepsOthers (x x' : List ℕ) (old new : AddressSpace) : Type 0 where
  pub count : length x' ≡ length x
  pub registers : (number : ℕ) → number ≢ 10 → slice_index x' number ≡ slice_index x number
  pub memory : OnlyHeapChanges old new

abbrev pub CallsKeepOthers : Type 0
CallsKeepOthers =
    (k errno : ℕ) (x x' : List ℕ) (old new : AddressSpace) → IsSound old
    → called k x old errno ≡ Some (x', new) → KeepsOthers x x' old new

-- where memory may be wanting for a call, the call is defined
abbrev pub WantingCallsAreDefined : Type 0
WantingCallsAreDefined =
    (k errno : ℕ) (x : List ℕ) (space : AddressSpace) → wants_memory k x space ≡ true
    → IsSome (called k x space errno)
