-- What holds of native memory at all times.
use Rattle.std.specs.Prelude.{◌≡◌, ℕ, ◌^◌, ◌≤◌, List, [], ◌∷◌, length, Option, Some, None, All}
use Rattle.native_memory.specs.declared.kind.Kind.{Kind}
use Rattle.native_memory.specs.declared.kind.Kind.TheVariants.{InPlace}
use Rattle.native_memory.specs.AddressSpace.{Block, AddressSpace, lowest, live_bytes}
use Rattle.native_memory.specs.Placement.{edge_of}

-- a block's contents have its size, and only an in-place block is without
abbrev pub HasItsBytes : ℕ → Kind → Option (List ℕ) → Type 0
HasItsBytes size kind (Some bytes) = length bytes ≡ size
HasItsBytes size kind None = kind ≡ InPlace

abbrev pub IsWhole : Block → Type 0
IsWhole block = HasItsBytes block.size block.kind block.contents

-- blocks lie one after another from a place on, up to an end
abbrev pub LieBetween : ℕ → List Block → ℕ → Type 0
LieBetween from [] end = from ≤ end
LieBetween from (block ∷ rest) end = (from ≤ block.base) × LieBetween (edge_of block) rest end

-- the blocks lie one after another between the lowest address and the next, and the live bytes are
-- within the limit
pub record IsSound (space : AddressSpace) : Type 0 where
  pub apart : LieBetween lowest space.blocks space.edge
  pub whole : All IsWhole space.blocks
  pub edge : space.edge ≤ space.next
  pub next : space.next ≤ 2 ^ 46
  pub room : live_bytes space ≤ space.limit

-- memory that keeps count of its live bytes
pub record IsKept (space : AddressSpace) (count : ℕ) : Type 0 where
  pub sound : IsSound space
  pub live : count ≡ live_bytes space
