use Rattle.std.proofs.Common.{◌≡◌, ◌++◌, ◌∷◌, length, take}
use Rattle.type_members.proofs.spelling.spell_sizes.Given as goal

abbrev pub invariant-loop-size : goal.invariant-loop-size
invariant-loop-size l = l.words ≡ l.fn.words ++ length l.sizes ∷ take l.size-index l.sizes
