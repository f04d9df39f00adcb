-- Laws of native memory.
use Rattle.std.specs.Prelude.{◌≡◌, ℕ, ◌+◌, ◌-◌, ◌<◌, ◌≤◌, nat_le, nat_lt, ◌&&◌, List, length}
use Rattle.std.specs.Prelude.{slice_get, Option, Some, None, IsSome, option_and_then, if◌then◌else◌}
use Rattle.std.specs.List.{find}
use Rattle.bound_base.specs.declared.limits.Rights.{Rights}
use Rattle.native_memory.specs.declared.kind.Kind.{Kind}
use Rattle.native_memory.specs.AddressSpace.{Block, AddressSpace, lowest, live_bytes}
use Rattle.native_memory.specs.Ranges.{written_at}
use Rattle.native_memory.specs.declared.kind.Kind.TheVariants.{Heap}
use Rattle.native_memory.specs.Placement.{edge_of, placed, placed_at, ended, block_with, heap_block}
use Rattle.native_memory.specs.Placement.{base_of, holds_address}
use Rattle.native_memory.specs.InPlace.{adopted, taken_back}
use Rattle.native_memory.specs.Sound.{IsSound}
use Rattle.native_memory.specs.Changes.{OnlyHeapChanges, OnlyBytesChange}

-- each block ends before the next begins, counted as one byte long where it has none; all lie
-- between the lowest address and the next, and the live bytes are within the limit
pub record LieApart (space : AddressSpace) : Type 0 where
  pub apart : (i j : ℕ) (a b : Block) → i < j → slice_get space.blocks i ≡ Some a
      → slice_get space.blocks j ≡ Some b → edge_of a ≤ b.base
  pub low : (i : ℕ) (a : Block) → slice_get space.blocks i ≡ Some a → lowest ≤ a.base
  pub high : (i : ℕ) (a : Block) → slice_get space.blocks i ≡ Some a → edge_of a ≤ space.next
  pub room : live_bytes space ≤ space.limit

-- the byte at an address of a block that has its bytes
abbrev pub byte_in : Block → ℕ → Option ℕ
byte_in block addr = option_and_then (λ bytes. slice_get bytes (addr - block.base)) block.contents

-- the byte at an address of a live block that has its bytes
abbrev pub byte_at : AddressSpace → ℕ → Option ℕ
byte_at space addr =
    option_and_then (λ block. byte_in block addr) (find (holds_address addr) space.blocks)

-- a write changes the bytes of its range and no others
abbrev pub WritesChangeTheirRange : Type 0
WritesChangeTheirRange =
    (old new : AddressSpace) (addr : ℕ) (from : List ℕ) → IsSound old
    → written_at old addr from ≡ Some new → (place : ℕ)
    → byte_at new place
    ≡ (if nat_le addr place && nat_lt place (addr + length from)
    then slice_get from (place - addr)
    else byte_at old place)

-- native memory after one call that changes it
pub data Follows : AddressSpace → AddressSpace → Type 0 where
  Places : (old new : AddressSpace) (size : ℕ) (rights : Rights) (kind : Kind)
      → placed old size rights kind ≡ Some new → Follows old new
  PlacesAt : (old new : AddressSpace) (base : ℕ) (bytes : List ℕ) (size : ℕ) (rights : Rights)
      → old.edge ≤ base → length bytes ≤ size → placed_at old base bytes size rights ≡ Some new
      → Follows old new
  Writes : (old new : AddressSpace) (addr : ℕ) (from : List ℕ) → written_at old addr from ≡ Some new
      → Follows old new
  Ends : (old new : AddressSpace) (base : ℕ) → ended old base ≡ Some new → Follows old new
  Adopts : (old new : AddressSpace) (base : ℕ) (body : List ℕ) → adopted old base body ≡ Some new
      → Follows old new
  TakesBack : (old : AddressSpace) (base : ℕ) → Follows old (taken_back old base)

-- native memory after any number of calls
pub data Reaches : AddressSpace → AddressSpace → Type 0 where
  Stays : (space : AddressSpace) → Reaches space space
  Goes : (old between new : AddressSpace) → Reaches old between → Follows between new
      → Reaches old new

-- an address below the end of the last block in which no live block lies is in none ever after
abbrev pub EndedAddressesStayFree : Type 0
EndedAddressesStayFree =
    (old new : AddressSpace) (addr : ℕ) → IsSound old → addr < old.edge → base_of old addr ≡ None
    → Reaches old new → base_of new addr ≡ None

-- and one that is no live block's base isn't one ever after: no base is given twice, that of an
-- empty block included
abbrev pub EndedBasesStayFree : Type 0
EndedBasesStayFree =
    (old new : AddressSpace) (base : ℕ) → IsSound old → base < old.edge → block_with old base ≡ None
    → Reaches old new → block_with new base ≡ None

-- a write, a heap block that is placed and one that ends change heap blocks alone, apart from
-- bytes; so do any number of them; and a write changes bytes alone
pub record HeapCallsKeepOthers : Type 0 where
  pub writes : (old new : AddressSpace) (addr : ℕ) (from : List ℕ) → IsSound old
      → written_at old addr from ≡ Some new → OnlyHeapChanges old new
  pub places : (old new : AddressSpace) (size : ℕ) (rights : Rights) → IsSound old
      → placed old size rights Heap ≡ Some new → OnlyHeapChanges old new
  pub ends : (old new : AddressSpace) (base : ℕ) → IsSound old → IsSome (heap_block old base)
      → ended old base ≡ Some new → OnlyHeapChanges old new
  pub joined : (old mid new : AddressSpace) → OnlyHeapChanges old mid → OnlyHeapChanges mid new
      → OnlyHeapChanges old new
  pub bytes : (old new : AddressSpace) (addr : ℕ) (from : List ℕ)
      → written_at old addr from ≡ Some new → OnlyBytesChange old new
