use Rattle.std.proofs.Common.{◌≡◌, ◌++◌, ◌∷◌, length, take}
use Rattle.type_members.proofs.method_keys.push_name.Given as goal

abbrev pub invariant-loop-byte : goal.invariant-loop-byte
invariant-loop-byte l = l.mark ≡ l.fn.mark ++ length l.name ∷ take l.byte-index l.name
