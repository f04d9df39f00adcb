-- What native code may do to memory.
use Rattle.std.specs.Prelude.{◌≡◌, ℕ, ◌<◌, ◌≤◌, Bool, not, List, map, None, is_some}
use Rattle.std.specs.List.{filter}
use Rattle.bound_base.specs.declared.limits.Rights.{Rights}
use Rattle.native_memory.specs.declared.kind.Kind.{Kind}
use Rattle.native_memory.specs.AddressSpace.{Block, AddressSpace, is_heap}
use Rattle.native_memory.specs.Placement.{base_of, block_with}
use Rattle.native_memory.specs.Sound.{IsSound}

-- what a block is, but for its bytes
pub record Outline : Type 0 where
  pub base : ℕ
  pub size : ℕ
  pub rights : Rights
  pub kind : Kind
  pub has_contents : Bool

abbrev pub outline_of : Block → Outline
outline_of block = record {
  base = block.base;
  size = block.size;
  rights = block.rights;
  kind = block.kind;
  has_contents = is_some block.contents;
}

-- the outlines of the blocks, in order
abbrev pub outlines : AddressSpace → List Outline
outlines space = map outline_of space.blocks

-- the outlines of those that aren't heap blocks
abbrev pub other_outlines : AddressSpace → List Outline
other_outlines space = map outline_of (filter (λ block. not (is_heap block)) space.blocks)

-- below the edge that there was, an address in no block is in none, and what was no base is none
pub record StaysFree (old new : AddressSpace) : Type 0 where
  pub edge : old.edge ≤ new.edge
  pub addresses : (addr : ℕ) → addr < old.edge → base_of old addr ≡ None → base_of new addr ≡ None
  pub bases : (base : ℕ) → base < old.edge → block_with old base ≡ None → block_with new base ≡ None

-- blocks come and go as heap blocks alone: all others stay, but for their bytes, and what is free
-- below the edge stays free
pub record OnlyHeapChanges (old new : AddressSpace) : Type 0 where
  pub others : other_outlines new ≡ other_outlines old
  pub limit : new.limit ≡ old.limit
  pub free : StaysFree old new
  pub sound : IsSound new

-- only bytes change: no block comes or goes, and the next one will stand where it would have
pub record OnlyBytesChange (old new : AddressSpace) : Type 0 where
  pub blocks : outlines new ≡ outlines old
  pub limit : new.limit ≡ old.limit
  pub next : new.next ≡ old.next
  pub edge : new.edge ≡ old.edge
