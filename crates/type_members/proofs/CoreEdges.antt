-- Core types: their interfaces, of which SafeHandle alone has one, and all of their places.
use Rattle.std.proofs.Common.{◌≡◌, ℕ, ◌-◌, Bool, List, [], ◌++◌, Some, append-nil, ap, ◌∙◌, arith}
use Rattle.std.specs.List.{range_with_len, flat_map}
use Rattle.graph_cycles.specs.declared.graph.Edge.{Edge}
use Rattle.type_model.specs.Core.{core_at, core_types}
use Rattle.type_model.specs.Module.{Module}
use Rattle.type_model.specs.TypeIds.{core_id}
use Rattle.type_members.specs.Subtypes.{above_edge, core_interface_edges, core_places}

pub handle_alone : (m : Module) (elements : Bool)
    → flat_map (core_interface_edges m elements) core_places ≡ above_edge m elements (core_id 30) (Some (core_id 24))
unfolding core_at core_types core_places
handle_alone m elements =
    let one : List Edge = above_edge m elements (core_id 30) (Some (core_id 24)) in
    append-nil (one ++ []) ∙ append-nil one

pub all_places : (k : ℕ) → k ≡ 57 → range_with_len 0 (k - 0) ≡ core_places
unfolding core_places
all_places k is = let so_many : k - 0 ≡ 57 = omega arith in ap (range_with_len 0) so_many
