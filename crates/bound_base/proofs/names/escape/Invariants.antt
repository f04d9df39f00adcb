-- what is written so far is the printed form of the bytes so far
use Rattle.std.proofs.Common.{◌≡◌, take}
use Rattle.std.specs.List.{flat_map}
use Rattle.bound_base.specs.Names.{escaped_byte}
use Rattle.bound_base.proofs.names.escape.Given as goal

abbrev pub invariant-loop-byte : goal.invariant-loop-byte
invariant-loop-byte l = l.text ≡ flat_map escaped_byte (take l.byte-index l.name)
