-- Native memory as plain data.
use Rattle.std.specs.Prelude.{ℕ, Bool, true, false, List, [], Option, option_map, if◌then◌else◌}
use Rattle.std.specs.declared.vec.Vec.{Vec}
use Rattle.std.specs.List.{sum_by, count_by}
use Rattle.bound_base.specs.declared.limits.Rights.{Rights}
use Rattle.native_memory.specs.declared.kind.Kind.{Kind}
use Rattle.native_memory.specs.declared.kind.Kind.TheVariants.{Segment, Stack, Errno, Heap, Temp}
use Rattle.native_memory.specs.declared.kind.Kind.TheVariants.{InPlace}

-- contents as a list
abbrev pub listed : {Z : Type 0} → Option (Vec ℕ Z) → Option (List ℕ)
listed contents = option_map (λ bytes. bytes.items) contents

-- a live block; only an in-place block can be without contents
pub record Block : Type 0 where
  pub base : ℕ
  pub size : ℕ
  pub rights : Rights
  pub kind : Kind
  pub contents : Option (List ℕ)

abbrev pub block_of : ℕ → ℕ → Rights → Kind → Option (List ℕ) → Block
block_of base size rights kind contents =
    record { base = base; size = size; rights = rights; kind = kind; contents = contents }

-- how many bytes may live, where the next block is placed, the end of the block that was placed
-- last, and the live blocks in order of their bases
pub record AddressSpace : Type 0 where
  pub limit : ℕ
  pub next : ℕ
  pub edge : ℕ
  pub blocks : List Block

abbrev pub space_with : ℕ → ℕ → ℕ → List Block → AddressSpace
space_with limit next edge blocks =
    record { limit = limit; next = next; edge = edge; blocks = blocks }

-- an address space, and how many bytes were written into it in all, which nothing in it tells
pub record NativeMemory : Type 0 where
  pub space : AddressSpace
  pub written : ℕ

-- a change of the blocks of which a test is true, and of no others
abbrev pub changed : (Block → Bool) → (Block → Block) → Block → Block
changed test change block = if test block then change block else block

-- the lowest address that a block may have
abbrev pub lowest : ℕ
lowest = 65536

-- before the first block
abbrev pub empty : ℕ → AddressSpace
empty limit = record { limit = limit; next = lowest; edge = lowest; blocks = [] }

-- the rights of a block that holds data: to be read and written, and not executed
abbrev pub data_rights : Rights
data_rights = record { r = true; w = true; x = false }

abbrev pub size_of : Block → ℕ
size_of block = block.size

-- the live bytes
unfoldable pub live_bytes : AddressSpace → ℕ
live_bytes space = sum_by size_of space.blocks

abbrev pub is_heap_kind : Kind → Bool
is_heap_kind Heap = true
is_heap_kind Segment = false
is_heap_kind Stack = false
is_heap_kind Errno = false
is_heap_kind Temp = false
is_heap_kind InPlace = false

abbrev pub is_heap : Block → Bool
is_heap block = is_heap_kind block.kind

-- the live heap blocks
unfoldable pub heap_blocks : AddressSpace → ℕ
heap_blocks space = count_by is_heap space.blocks
