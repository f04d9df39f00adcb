-- the units so far are those of the characters so far
use Rattle.std.proofs.Common.{◌≡◌, flat_map}
use Rattle.std.specs.Char.Escape.{encode_utf16}
use Rattle.string_images.proofs.texts.from_utf8.Given as goal

abbrev pub invariant-loop-character : goal.invariant-loop-character
invariant-loop-character l = l.units ≡ flat_map encode_utf16 l.yielded
