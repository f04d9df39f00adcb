-- Placing blocks and ending them.
use Rattle.std.specs.Prelude.{◌≡◌, ℕ, ◌+◌, ◌-◌, ◌*◌, ◌/◌, ◌^◌, max, nat_le, Bool, true, false, ◌&&◌}
use Rattle.std.specs.Prelude.{not, List, [], ◌∷◌, ◌++◌, length, replicate, Option, Some, None}
use Rattle.std.specs.Prelude.{IsSome, option_map, option_and_then, if◌then◌else◌, ◌==◌}
use Rattle.std.specs.List.{filter, find}
use Rattle.bound_base.specs.declared.limits.Rights.{Rights}
use Rattle.native_memory.specs.declared.kind.Kind.{Kind}
use Rattle.native_memory.specs.declared.kind.Kind.TheVariants.{Segment, Stack, Errno, Heap, Temp}
use Rattle.native_memory.specs.declared.kind.Kind.TheVariants.{InPlace}
use Rattle.native_memory.specs.declared.faults.PlaceBad.{PlaceBad}
use Rattle.native_memory.specs.declared.faults.PlaceBad.TheVariants.{Room, Memory}
use Rattle.native_memory.specs.AddressSpace.{Block, AddressSpace, block_of, live_bytes, is_heap}

-- the least multiple of 16 not below
abbrev pub up_to_16 : ℕ → ℕ
up_to_16 n = (n + 15) / 16 * 16

-- the end of a block, which counts as one byte long where it has none: so bases differ
abbrev pub edge_of : Block → ℕ
edge_of block = block.base + max block.size 1

-- the live bytes stay within the limit, and the next address within 2^46
abbrev pub has_room : AddressSpace → ℕ → ℕ → Bool
has_room space size next = nat_le (live_bytes space + size) space.limit && nat_le next (2 ^ 46)

-- with one more block after the others
abbrev pub with_behind : AddressSpace → Block → ℕ → AddressSpace
with_behind space block next =
    record space { next = next; edge = edge_of block; blocks = space.blocks ++ block ∷ [] }

-- the same where there is room for it
abbrev pub with_block : AddressSpace → Block → ℕ → Option AddressSpace
with_block space block next =
    if has_room space block.size next
    then Some (with_behind space block next)
    else None

-- what a new block holds: zeros, and nothing yet in an in-place block
abbrev pub new_contents : ℕ → Kind → Option (List ℕ)
new_contents size InPlace = None
new_contents size Segment = Some (replicate size 0)
new_contents size Stack = Some (replicate size 0)
new_contents size Errno = Some (replicate size 0)
new_contents size Heap = Some (replicate size 0)
new_contents size Temp = Some (replicate size 0)

-- a block at the next address, which moves on by the block's size in whole sixteens and one sixteen
-- more; None without room
unfoldable pub placed : AddressSpace → ℕ → Rights → Kind → Option AddressSpace
placed space size rights kind =
    with_block space (block_of space.next size rights kind (new_contents size kind))
    (space.next + up_to_16 size + 16)

-- bytes with zeros after them, up to a length
abbrev pub filled_up : List ℕ → ℕ → List ℕ
filled_up bytes size = bytes ++ replicate (size - length bytes) 0

-- a segment elsewhere, filled up with zeros; the next address is the multiple of 16 that isn't
-- below its end, and 16 on; None without room
unfoldable pub placed_at : AddressSpace → ℕ → List ℕ → ℕ → Rights → Option AddressSpace
placed_at space base bytes size rights =
    with_block space (block_of base size rights Segment (Some (filled_up bytes size)))
    (up_to_16 (base + size) + 16)

-- the block has this base
abbrev pub stands_at : ℕ → Block → Bool
stands_at base block = block.base == base

-- the live block with a base
unfoldable pub block_with : AddressSpace → ℕ → Option Block
block_with space base = find (stands_at base) space.blocks

-- the live heap block with a base
abbrev pub heap_block : AddressSpace → ℕ → Option Block
heap_block space base =
    option_and_then (λ block. if is_heap block then Some block else None) (block_with space base)

-- the bytes of that block, whatever its rights
abbrev pub heap_contents : AddressSpace → ℕ → Option (List ℕ)
heap_contents space base = option_and_then (λ block. block.contents) (heap_block space base)

-- what is told of a block
abbrev pub described : Block → (ℕ × Rights × Kind)
described block = (block.size, block.rights, block.kind)

-- without the block with a base; None where no live block has it
unfoldable pub ended : AddressSpace → ℕ → Option AddressSpace
ended space base =
    let others = filter (λ block. not (stands_at base block)) space.blocks in
    option_map (λ _. record space { blocks = others }) (block_with space base)

-- the address lies in the block
abbrev pub holds_address : ℕ → Block → Bool
holds_address addr block = nat_le block.base addr && nat_le (addr + 1) (block.base + block.size)

-- the base of the live block in which an address lies
unfoldable pub base_of : AddressSpace → ℕ → Option ℕ
base_of space addr = option_map (λ block. block.base) (find (holds_address addr) space.blocks)

-- an address that the next block may have
abbrev pub within_top : ℕ → Option ℕ
within_top next = if nat_le next (2 ^ 46) then Some next else None

-- By the answer of a call that makes a change where there is one to make: it made that one, or
-- there is none and all is as it was.
abbrev pub Does : Bool → Option AddressSpace → AddressSpace → AddressSpace → Type 0
Does true change old new = change ≡ Some new
Does false change old new = (change ≡ None) × (new ≡ old)

-- why a block isn't placed: there is no room for it; or there is, and memory for it is wanting
abbrev pub FailsToPlace : PlaceBad → Option AddressSpace → Type 0
FailsToPlace Room change = change ≡ None
FailsToPlace Memory change = IsSome change
