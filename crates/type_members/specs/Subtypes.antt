-- When a value of one type may stand where another type is wanted (ECMA-335 I.8.7.1): the reflexive and transitive closure of
-- what types extend and which interfaces they have, and for arrays that of their elements.
use Rattle.std.specs.Prelude.{◌≡◌, ℕ, ◌+◌, ◌*◌, ◌-◌, ◌<◌, ◌==◌, Bool, true, false, not, ◌&&◌, ◌⊎◌, min, nat_lt, List, [], ◌∷◌, ◌++◌, map, filter, slice_index, Option, Some, None, if◌then◌else◌}
use Rattle.std.specs.List.{range_with_len, flat_map}
use Rattle.managed_value.specs.declared.names.TypeId.{TypeId}
use Rattle.graph_cycles.specs.declared.graph.Edge.{Edge}
use Rattle.graph_cycles.specs.Cycles.{Leads}
use Rattle.type_model.specs.Module.{Module, rows, row_count}
use Rattle.type_model.specs.Rows.{type_defs, interface_impls}
use Rattle.type_model.specs.Core as core
use Rattle.type_model.specs.TypeIds.{row_limit, is_core, core_id, def_id, named, coded_token}
use Rattle.type_model.specs.Types.{extends_of, is_value_type}

-- Types as nodes of a graph, by their bases: odd numbers for core types, that after the last for what is none, and even ones for
-- types of the file.
abbrev pub node : ℕ → ℕ
node base = if is_core base then 2 * min (base - row_limit) core.core_count + 1 else 2 * base

abbrev pub edge_to : ℕ → Option TypeId → List Edge
edge_to from None = []
edge_to from (Some id) = (record { from = from; to = node id.base }) ∷ []

-- Arrays follow their elements only where these are references, so that no value type leads on there.
abbrev pub leads_on : Module → Bool → TypeId → Bool
leads_on m elements id = not (elements && is_value_type m id)

-- from a type to one right above it, if there is one; for types, or for elements of arrays
abbrev pub above_edge : Module → Bool → TypeId → Option TypeId → List Edge
above_edge m elements id above = if leads_on m elements id then edge_to (node id.base) above else []

-- to what a type extends
abbrev pub extends_edge : Module → Bool → TypeId → List Edge
extends_edge m elements id = above_edge m elements id (extends_of m id)

-- to the interfaces of a core type
abbrev pub core_interfaces : Option core.CoreType → List ℕ
core_interfaces None = []
core_interfaces (Some known) = known.interfaces

abbrev pub core_interface_edges : Module → Bool → ℕ → List Edge
core_interface_edges m elements place =
    flat_map (λ i. above_edge m elements (core_id place) (Some (core_id i))) (core_interfaces (core.core_at place))

-- an array is no interface
abbrev pub if_plain : Option TypeId → Option TypeId
if_plain None = None
if_plain (Some id) = if id.arrays == 0 then Some id else None

-- to the interface that a row of InterfaceImpl says that a type of the file has (II.22.23)
abbrev pub interface_edge : Module → Bool → List ℕ → List Edge
interface_edge m elements numbers =
    if is_core (slice_index numbers 0) then []
    else above_edge m elements (def_id (slice_index numbers 0)) (if_plain (named m (coded_token (slice_index numbers 1))))

unfoldable pub core_places : List ℕ
core_places = range_with_len 0 core.core_count

abbrev pub listed : {A : Type 0} → Option A → List A
listed None = []
listed (Some x) = x ∷ []

-- the interfaces that a type names itself: a core type by the table, one of the file by its rows of InterfaceImpl, an array none
unfoldable pub interfaces_of : Module → TypeId → List TypeId
interfaces_of m id =
    if nat_lt 0 id.arrays then []
    else if is_core id.base then map core_id (core_interfaces (core.core_at (id.base - row_limit)))
    else flat_map (λ numbers. listed (named m (coded_token (slice_index numbers 1))))
    (filter (λ numbers. slice_index numbers 0 == id.base) (rows m interface_impls))

-- from each type to those right above it
unfoldable pub type_edges : Module → Bool → List Edge
type_edges m elements =
    flat_map (λ place. extends_edge m elements (core_id place)) core_places
    ++ flat_map (λ t. extends_edge m elements (def_id t)) (range_with_len 1 (row_count m type_defs))
    ++ flat_map (core_interface_edges m elements) core_places
    ++ flat_map (interface_edge m elements) (rows m interface_impls)

-- Array, and what it extends
abbrev pub IsOfArrays : ℕ → Type 0
IsOfArrays base = (base ≡ row_limit + core.array_place) ⊎ (base ≡ row_limit + core.object_place)

-- A value of the first type may stand where the second is wanted.
pub data IsSubtype (m : Module) : TypeId → TypeId → Type 0 where
  Itself : (a : TypeId) → IsSubtype m a a
  Plain : (a b : TypeId) → a.arrays ≡ 0 → b.arrays ≡ 0 → Leads (type_edges m false) (node a.base) (node b.base) → IsSubtype m a b
  Elements : (a b : TypeId) → 0 < a.arrays → b.arrays ≡ a.arrays → Leads (type_edges m true) (node a.base) (node b.base) → IsSubtype m a b
  AsArray : (a b : TypeId) → b.arrays < a.arrays → IsOfArrays b.base → IsSubtype m a b
