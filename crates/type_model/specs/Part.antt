-- The part `types` of an image: what each row of TypeDef must be, and the first that isn't.
use Rattle.std.specs.Prelude.{ℕ, ◌+◌, Bool, not, ◌==◌, ◌&&◌, List, [], ◌∷◌, ◌++◌, Option, Some, None, option_map, option_and_then, is_some, Result, Ok, if◌then◌else◌}
use Rattle.std.specs.List.{range_with_len, flat_map, list_all}
use Rattle.managed_value.specs.declared.names.TypeId.{TypeId}
use Rattle.byte_view.specs.Reading.{Broken, ◌>>=◌, must, each}
use Rattle.byte_view.specs.Parts as parts
use Rattle.byte_view.specs.Headers.{Headers}
use Rattle.byte_view.specs.Metadata.{Metadata, row_start}
use Rattle.byte_view.specs.Assembly.{image}
use Rattle.graph_cycles.specs.declared.graph.Edge.{Edge}
use Rattle.graph_cycles.specs.Cycles.{is_on_cycle}
use Rattle.type_model.specs.Module.{Module, module_of, row_count}
use Rattle.type_model.specs.Rows.{type_defs, encloser}
use Rattle.type_model.specs.TypeIds.{is_core, def_id}
use Rattle.type_model.specs.Types.{extends_of, is_value_type, own_fields, declared_fields, field_sig_of, field_type}

-- an edge to something, where it is there
abbrev pub edge : ℕ → Option ℕ → List Edge
edge from None = []
edge from (Some to) = (record { from = from; to = to }) ∷ []

-- the rows of TypeDef
abbrev pub all_types : Module → List ℕ
all_types m = range_with_len 1 (row_count m type_defs)

-- the row of TypeDef that a type is
abbrev pub def_of : TypeId → Option ℕ
def_of id = if id.arrays == 0 && not (is_core id.base) then Some id.base else None

-- the type of the file that a type of the file extends, whatever token names it
abbrev pub base_def : Module → ℕ → Option ℕ
base_def m t = option_and_then def_of (extends_of m (def_id t))

unfoldable pub extends_edges : Module → List Edge
extends_edges m = flat_map (λ t. edge t (base_def m t)) (all_types m)

-- the type that encloses a nested one
abbrev pub encloser_of : Module → ℕ → Option ℕ
encloser_of m t = if encloser m t == 0 then None else Some (encloser m t)

unfoldable pub nesting_edges : Module → List Edge
nesting_edges m = flat_map (λ t. edge t (encloser_of m t)) (all_types m)

-- the value type of the file that is the type of a field
abbrev pub value_def : Module → TypeId → Option ℕ
value_def m id = if is_value_type m id then def_of id else None

abbrev pub field_value : Module → ℕ → Option ℕ
field_value m f = option_and_then (value_def m) (field_type m f)

-- What stands inside a value type. A type t has two nodes: t, a value of it, and n + t, what such a
-- value holds by t and its bases, n being the number of types. A value holds what its type and
-- its bases declare: t leads to n + t, n + t to n + its base, and n + t to each value type of an
-- instance field that t declares.
abbrev pub held_by : Module → ℕ → ℕ → List Edge
held_by m n t =
    (record { from = t; to = n + t }) ∷ edge (n + t) (option_map (λ base. n + base) (base_def m t))
    ++ flat_map (λ f. edge (n + t) (field_value m f)) (own_fields m t)

unfoldable pub inside_edges : Module → List Edge
inside_edges m = flat_map (held_by m (row_count m type_defs)) (all_types m)

-- the signatures of the fields that it declares are in the grammar
unfoldable pub has_field_sigs : Module → ℕ → Bool
has_field_sigs m t = list_all (λ f. is_some (field_sig_of m f)) (declared_fields m t)

-- A type extends and encloses itself at no distance, stands inside itself at no depth, and has
-- fields with signatures.
unfoldable pub is_sound_type : Module → ℕ → Bool
is_sound_type m t =
    not (is_on_cycle (extends_edges m) t) && not (is_on_cycle (nesting_edges m) t)
    && not (is_on_cycle (inside_edges m) t) && has_field_sigs m t

-- each type is sound, or the first that isn't is refused at the start of its row
unfoldable pub types_part : List ℕ → Headers → Metadata → Result ℕ Broken
types_part bytes headers metadata =
    each
    (λ k. must (is_sound_type (module_of bytes headers metadata) (k + 1))
    (parts.types, row_start metadata.layout type_defs k))
    (row_count (module_of bytes headers metadata) type_defs)

-- the types of a file whose headers and metadata were read
unfoldable pub types_in : List ℕ → Headers → Metadata → Result Module Broken
types_in bytes headers metadata =
    types_part bytes headers metadata >>= λ _. Ok (module_of bytes headers metadata)

-- an assembly: its headers, its metadata and its types, or its first broken part up to its types
unfoldable pub assembly_types : List ℕ → Result Module Broken
assembly_types bytes = image bytes >>= λ read. types_in bytes read.headers read.metadata
