-- what is written so far is the bytes of the units so far
use Rattle.std.proofs.Common.{◌≡◌, ◌++◌, take}
use Rattle.string_images.specs.Texts.{utf16_bytes}
use Rattle.string_images.proofs.texts.push_units.Given as goal

abbrev pub invariant-loop-unit : goal.invariant-loop-unit
invariant-loop-unit l = l.bytes ≡ l.fn.bytes ++ utf16_bytes (take l.unit-index l.units)
