use Rattle.std.proofs.Common.{◌≡◌, ◌++◌, ◌-◌}
use Rattle.std.specs.List.{flat_map, range_with_len}
use Rattle.type_model.specs.TypeIds.{def_id}
use Rattle.type_members.specs.Subtypes.{extends_edge}
use Rattle.type_members.proofs.edges.push_bases.Given as goal

abbrev pub invariant-loop-t : goal.invariant-loop-t
invariant-loop-t l =
    l.edges.items ≡ l.fn.edges.items ++ flat_map (λ t. extends_edge l.types l.elements (def_id t)) (range_with_len 1 (l.t - 1))
