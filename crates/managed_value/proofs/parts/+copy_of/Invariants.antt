-- the fields so far are copied
use Rattle.std.proofs.Common.{◌≡◌, take}
use Rattle.managed_value.proofs.parts.+copy_of.Given as goal

abbrev pub invariant-loop-part : goal.invariant-loop-part
invariant-loop-part l = l.copies ≡ take l.part-index l.part-items
