-- In-place blocks, whose bytes another part of the program lends and takes back.
use Rattle.std.specs.Prelude.{ℕ, Bool, true, false, ◌&&◌, ◌||◌, not, List, length, map, Option}
use Rattle.std.specs.Prelude.{Some, None, is_some, option_and_then, if◌then◌else◌, ◌==◌}
use Rattle.std.specs.List.{list_all, find}
use Rattle.native_memory.specs.declared.kind.Kind.{Kind}
use Rattle.native_memory.specs.declared.kind.Kind.TheVariants.{Segment, Stack, Errno, Heap, Temp}
use Rattle.native_memory.specs.declared.kind.Kind.TheVariants.{InPlace}
use Rattle.native_memory.specs.AddressSpace.{Block, AddressSpace, changed}
use Rattle.native_memory.specs.Placement.{stands_at}

abbrev pub is_in_place : Kind → Bool
is_in_place InPlace = true
is_in_place Segment = false
is_in_place Stack = false
is_in_place Errno = false
is_in_place Heap = false
is_in_place Temp = false

-- the in-place block with a base
abbrev pub is_in_place_at : ℕ → Block → Bool
is_in_place_at base block = stands_at base block && is_in_place block.kind

-- that block, where it has this size and is without contents
abbrev pub waits_at : ℕ → ℕ → Block → Bool
waits_at base len block =
    is_in_place_at base block && (not (is_some block.contents) && (block.size == len))

abbrev pub with_contents : Option (List ℕ) → Block → Block
with_contents contents block = record block { contents = contents }

-- the in-place block with a base gets its contents, and all else is as it was; None where no
-- in-place block of that size waits there
unfoldable pub adopted : AddressSpace → ℕ → List ℕ → Option AddressSpace
adopted space base body =
    if is_some (find (waits_at base (length body)) space.blocks)
    then
    Some (record space {
      blocks = map (changed (waits_at base (length body)) (with_contents (Some body))) space.blocks;
    })
    else None

-- the contents of the in-place block with a base, where it has them
unfoldable pub lent_at : AddressSpace → ℕ → Option (List ℕ)
lent_at space base =
    option_and_then (λ block. block.contents) (find (is_in_place_at base) space.blocks)

-- that block is without contents, and all else is as it was
abbrev pub taken_back : AddressSpace → ℕ → AddressSpace
taken_back space base =
    record space { blocks = map (changed (is_in_place_at base) (with_contents None)) space.blocks }

-- a block has its bytes, unless it is an in-place block whose bytes are elsewhere
abbrev pub is_here : Block → Bool
is_here block = not (is_in_place block.kind) || is_some block.contents

-- each in-place block has its bytes
unfoldable pub are_all_here : AddressSpace → Bool
are_all_here space = list_all is_here space.blocks
