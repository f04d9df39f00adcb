use Rattle.std.proofs.Common.{◌≡◌, ◌++◌, ◌∷◌, length, map, take}
use Rattle.std.specs.List.{flat_map}
use Rattle.type_members.specs.Spelled.{type_words}
use Rattle.type_members.proofs.spelling.+spelling.Given as goal

abbrev pub invariant-spell_types-loop-sig : goal.invariant-spell_types-loop-sig
invariant-spell_types-loop-sig l =
    l.words ≡ l.fn.words ++ length l.all ∷ flat_map (λ words. words) (map (type_words l.types) (take l.sig-index l.all))
