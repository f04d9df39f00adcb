use Rattle.std.proofs.Common.{◌≡◌, ◌++◌, ◌∷◌, length, map, take}
use Rattle.std.specs.Int.{cast_unsigned, w32}
use Rattle.type_members.proofs.spelling.spell_lows.Given as goal

abbrev pub invariant-loop-low : goal.invariant-loop-low
invariant-loop-low l = l.words ≡ l.fn.words ++ length l.lows ∷ map (cast_unsigned w32) (take l.low-index l.lows)
