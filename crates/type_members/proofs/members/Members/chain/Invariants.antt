use Rattle.std.proofs.Common.{◌≡◌, ◌++◌, ◌∷◌}
use Rattle.type_model.specs.Types.{bases, bases_within}
use Rattle.type_members.proofs.members.Members.chain.Given as goal

abbrev pub invariant-loop-left : goal.invariant-loop-left
invariant-loop-left l = l.chain ++ bases_within l.left l.self l.at ≡ l.fn.id ∷ bases l.self l.fn.id

abbrev pub decreases-loop-left : goal.decreases-loop-left
decreases-loop-left l = l.left
