-- Reading and writing ranges of addresses.
use Rattle.std.specs.Prelude.{ℕ, ◌+◌, ◌-◌, ◌^◌, min, nat_le, Bool, ◌&&◌, List, [], ◌++◌, length}
use Rattle.std.specs.Prelude.{take, drop, map, Option, Some, None, is_some, option_map}
use Rattle.std.specs.Prelude.{option_and_then, if◌then◌else◌, ◌==◌}
use Rattle.std.specs.List.{find}
use Rattle.byteorder.specs.Endian.{little_number}
use Rattle.bound_base.specs.declared.limits.Rights.{Rights}
use Rattle.native_memory.specs.declared.access.Access.{Access}
use Rattle.native_memory.specs.declared.access.Access.TheVariants.{Read, Write, Execute}
use Rattle.native_memory.specs.AddressSpace.{Block, AddressSpace, changed}

-- the block covers the range: it begins and ends in the block
abbrev pub covers : ℕ → ℕ → Block → Bool
covers addr len block = nat_le block.base addr && nat_le (addr + len) (block.base + block.size)

-- the right that a use asks for
abbrev pub may_read : Rights → Bool
may_read rights = rights.r

abbrev pub may_write : Rights → Bool
may_write rights = rights.w

abbrev pub may_execute : Rights → Bool
may_execute rights = rights.x

-- a block's bytes, where it has the right
abbrev pub open_bytes : (Rights → Bool) → Block → Option (List ℕ)
open_bytes right block = if right block.rights then block.contents else None

-- of a block's bytes those of a range that it covers
abbrev pub part : ℕ → ℕ → Block → List ℕ → List ℕ
part addr len block bytes = take len (drop (addr - block.base) bytes)

-- the bytes of a range that one live block with the right covers; a range of no bytes is there
-- everywhere
unfoldable pub bytes_at : (Rights → Bool) → AddressSpace → ℕ → ℕ → Option (List ℕ)
bytes_at right space addr len =
    if len == 0 then Some []
    else
    option_and_then (λ block. option_map (part addr len block) (open_bytes right block))
    (find (covers addr len) space.blocks)

-- the bytes from an address to the end of the live block in which it lies, where that may be read
unfoldable pub rest_at : AddressSpace → ℕ → Option (List ℕ)
rest_at space addr =
    option_and_then (λ block. option_map (drop (addr - block.base)) (open_bytes may_read block))
    (find (covers addr 1) space.blocks)

-- the word of four bytes that stands at an address and may be executed
abbrev pub word_at : AddressSpace → ℕ → Option ℕ
word_at space pc = option_map (little_number 4) (bytes_at may_execute space pc 4)

-- bytes with others over them from a place on
abbrev pub overwritten : List ℕ → ℕ → List ℕ → List ℕ
overwritten bytes at from = take at bytes ++ from ++ drop (at + length from) bytes

-- a block with bytes written from one of its addresses on
abbrev pub write_in : ℕ → List ℕ → Block → Block
write_in addr from block =
    record block {
      contents = option_map (λ bytes. overwritten bytes (addr - block.base) from) block.contents;
    }

-- a count of written bytes after so many more: it stays at 2^64 - 1 once there
abbrev pub counted : ℕ → ℕ → ℕ
counted written len = min (written + len) (2 ^ 64 - 1)

-- after a write that doesn't fault: the block that covers the range has the bytes there, and all
-- else is as it was
abbrev pub with_written : AddressSpace → ℕ → List ℕ → AddressSpace
with_written space addr from =
    record space {
      blocks = map (changed (covers addr (length from)) (write_in addr from)) space.blocks;
    }

-- a write, None where it faults; one of no bytes changes nothing
unfoldable pub written_at : AddressSpace → ℕ → List ℕ → Option AddressSpace
written_at space addr from =
    if length from == 0 then Some space
    else if is_some (bytes_at may_write space addr (length from))
    then Some (with_written space addr from)
    else None

-- the right that an access asks for
abbrev pub right_of : Access → Rights → Bool
right_of Read = may_read
right_of Write = may_write
right_of Execute = may_execute

-- a write that is asked for, or a read
abbrev pub right_to : Bool → Rights → Bool
right_to write = if write then may_write else may_read
