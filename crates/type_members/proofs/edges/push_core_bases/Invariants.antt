use Rattle.std.proofs.Common.{◌≡◌, ◌++◌, ◌-◌}
use Rattle.std.specs.List.{flat_map, range_with_len}
use Rattle.type_model.specs.TypeIds.{core_id}
use Rattle.type_members.specs.Subtypes.{extends_edge}
use Rattle.type_members.proofs.edges.push_core_bases.Given as goal

abbrev pub invariant-loop-place : goal.invariant-loop-place
invariant-loop-place l =
    l.edges.items ≡ l.fn.edges.items ++ flat_map (λ place. extends_edge l.types l.elements (core_id place)) (range_with_len 0 (l.place - 0))
