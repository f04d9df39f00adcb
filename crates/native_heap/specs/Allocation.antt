-- Memory management (ISO/IEC 9899 7.22.3), on whole blocks. Where that standard leaves room: a
-- block of no bytes is one like others, with a base of its own; a new block holds zeros; `realloc`
-- always moves, places the new block before the old one ends, and takes 0 for a size like others;
-- `free`, which answers nothing, leaves a0 as it was.
use Rattle.std.specs.Prelude.{ℕ, ◌*◌, ◌^◌, nat_lt, Bool, false, List, take}
use Rattle.std.specs.Prelude.{Option, Some, None, is_some, if◌then◌else◌, ◌==◌}
use Rattle.native_memory.specs.declared.kind.Kind.TheVariants.{Heap}
use Rattle.native_memory.specs.AddressSpace.{AddressSpace, data_rights}
use Rattle.native_memory.specs.Ranges.{written_at}
use Rattle.native_memory.specs.Placement.{placed, ended, heap_block, heap_contents}
use Rattle.native_heap.specs.Outcome.{Outcome, ◌>>=◌, answering}

-- memory with a new heap block, which may be read and written; None without room
abbrev pub heap_placed : AddressSpace → ℕ → Option AddressSpace
heap_placed space size = placed space size data_rights Heap

-- the new block's base, or 0 where there was no room
abbrev pub given : AddressSpace → Option AddressSpace → Outcome
given space (Some new) = Some (space.next, new)
given space None = Some (0, space)

-- `malloc` (7.22.3.4): a heap block of so many bytes
unfoldable pub malloc : AddressSpace → ℕ → Outcome
malloc space size = given space (heap_placed space size)

-- it takes memory where there is room for the block
abbrev pub malloc_takes : AddressSpace → ℕ → Bool
malloc_takes space size = is_some (heap_placed space size)

-- `calloc` (7.22.3.2): one of so many times so many, and 0 where that is no number of 64 bits
unfoldable pub calloc : AddressSpace → ℕ → ℕ → Outcome
calloc space count size =
    if nat_lt (count * size) (2 ^ 64) then malloc space (count * size) else Some (0, space)

abbrev pub calloc_takes : AddressSpace → ℕ → ℕ → Bool
calloc_takes space count size =
    if nat_lt (count * size) (2 ^ 64) then malloc_takes space (count * size) else false

-- `free` (7.22.3.3): the heap block at p has ended; nothing happens at 0
unfoldable pub free : AddressSpace → ℕ → Outcome
free space p =
    if p == 0 then Some (p, space) else heap_block space p >>= λ _. answering p (ended space p)

-- the new block with bytes at its front, and the block at p ended; 0 where there was no room, and
-- that block lives on
abbrev pub moved : AddressSpace → ℕ → List ℕ → Option AddressSpace → Outcome
moved space p front (Some new) =
    answering space.next (written_at new space.next front >>= λ filled. ended filled p)
moved space p front None = Some (0, space)

-- `realloc` (7.22.3.5): a heap block of so many bytes in place of the one at p, with the bytes that
-- are common to both; as `malloc` where p is 0. What rights the old block has doesn't matter
unfoldable pub realloc : AddressSpace → ℕ → ℕ → Outcome
realloc space p size =
    if p == 0 then malloc space size
    else do
      bytes ← heap_contents space p
      moved space p (take size bytes) (heap_placed space size)

-- it takes memory where it doesn't fault, and at 0 as `malloc` does
abbrev pub realloc_takes : AddressSpace → ℕ → ℕ → Bool
realloc_takes space p size =
    if p == 0 then malloc_takes space size else is_some (realloc space p size)
