use Rattle.std.proofs.Common.{◌≡◌, ◌++◌}
use Rattle.type_model.specs.FullNames.{brackets}
use Rattle.type_model.proofs.full_names.push_brackets.Given as goal

abbrev pub invariant-loop-i : goal.invariant-loop-i
invariant-loop-i l = l.name ≡ l.initial.name ++ brackets l._i
