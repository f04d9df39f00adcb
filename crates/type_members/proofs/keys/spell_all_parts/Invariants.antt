use Rattle.std.proofs.Common.{◌≡◌, ◌++◌, ◌∷◌, length, map, take}
use Rattle.std.specs.List.{flat_map}
use Rattle.type_members.specs.Found.{part_words}
use Rattle.type_members.proofs.keys.spell_all_parts.Given as goal

abbrev pub invariant-loop-part : goal.invariant-loop-part
invariant-loop-part l =
    l.words ≡ l.fn.words ++ length l.parts ∷ flat_map (λ words. words) (map part_words (take l.part-index l.parts))
