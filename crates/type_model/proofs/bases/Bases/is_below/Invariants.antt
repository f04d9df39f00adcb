use Rattle.std.proofs.Common.{◌≡◌}
use Rattle.std.specs.List.{list_any}
use Rattle.type_model.specs.TypeIds.{same_type}
use Rattle.type_model.specs.Types.{bases_within, is_below}
use Rattle.type_model.proofs.bases.Bases.is_below.Given as goal

abbrev pub invariant-loop-left : goal.invariant-loop-left
invariant-loop-left l = list_any (same_type l.base) (bases_within l.left l.self l.at) ≡ is_below l.self l.fn.id l.base

abbrev pub decreases-loop-left : goal.decreases-loop-left
decreases-loop-left l = l.left
