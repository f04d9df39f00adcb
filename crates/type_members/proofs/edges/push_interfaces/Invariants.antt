use Rattle.std.proofs.Common.{◌≡◌, ◌++◌, take}
use Rattle.std.specs.List.{flat_map}
use Rattle.type_members.specs.Subtypes.{interface_edge}
use Rattle.type_members.proofs.edges.push_interfaces.Given as goal

abbrev pub invariant-loop-row : goal.invariant-loop-row
invariant-loop-row l =
    l.edges.items ≡ l.fn.edges.items ++ flat_map (interface_edge l.types l.elements) (take l.row-index l.row-items)
