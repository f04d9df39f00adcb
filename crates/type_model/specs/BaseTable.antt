-- What types extend, as a table of numbers: core types have the numbers of their places, then one
-- stands for nothing, and the types of the file follow, by their rows.
use Rattle.std.specs.Prelude.{ℕ, ◌+◌, ◌-◌, ◌==◌, ◌≡◌, ◌<◌, Bool, false, List, ◌∷◌, ◌++◌, map, min, Option, Some, None, if◌then◌else◌, slice_index_or}
use Rattle.std.specs.List.{range_with_len}
use Rattle.managed_value.specs.declared.names.TypeId.{TypeId}
use Rattle.type_model.specs.Module.{Module, row_count}
use Rattle.type_model.specs.Rows.{type_defs}
use Rattle.type_model.specs.Core as core
use Rattle.type_model.specs.TypeIds.{row_limit, is_core, core_id, def_id}
use Rattle.type_model.specs.Types.{extends_of, is_below}

-- the number of nothing
abbrev pub nothing : ℕ
nothing = core.core_count

abbrev pub number_of : TypeId → ℕ
number_of id =
    if is_core id.base then min (id.base - row_limit) nothing else nothing + id.base

abbrev pub number_if : Option TypeId → ℕ
number_if None = nothing
number_if (Some id) = number_of id

abbrev pub place_or_nothing : Option ℕ → ℕ
place_or_nothing None = nothing
place_or_nothing (Some place) = min place nothing

abbrev pub extended_place : Option core.CoreType → ℕ
extended_place None = nothing
extended_place (Some known) = place_or_nothing known.extends

-- what follows a core type, if one leads to itself: that one itself, else what it extends
abbrev pub after_core : ℕ → ℕ → ℕ
after_core last place =
    if place == last then last else extended_place (core.core_at place)

-- what follows each core type
unfoldable pub after_cores : ℕ → List ℕ
after_cores last = map (after_core last) (range_with_len 0 nothing)

-- the table, by what each type of the file extends
abbrev pub table_of : ℕ → List (Option TypeId) → List ℕ
table_of last extends = after_cores last ++ nothing ∷ map number_if extends

-- what the types of a file extend, row after row
abbrev pub extends_list : Module → List (Option TypeId)
extends_list m = map (λ t. extends_of m (def_id t)) (range_with_len 1 (row_count m type_defs))

-- which types of the file, by their rows, are below a core type
abbrev pub TellsBelow : Module → ℕ → List Bool → Type 0
TellsBelow m place below =
    (t : ℕ) → t < row_limit → slice_index_or below t false ≡ is_below m (def_id t) (core_id place)
