-- What the rows of TypeRef and TypeSpec name, row after row, and the ways along the rows of TypeSpec.
use Rattle.std.specs.Prelude.{ℕ, ◌+◌, ◌-◌, List, map, Option, Some, None, option_and_then, if◌then◌else◌}
use Rattle.std.specs.List.{range_with_len}
use Rattle.managed_value.specs.declared.names.TypeId.{TypeId}
use Rattle.type_model.specs.declared.type_ids.Leaf.{Leaf}
use Rattle.type_model.specs.declared.type_ids.Leaf.TheVariants.{Core, Token}
use Rattle.type_model.specs.declared.ways.Way.{Way}
use Rattle.type_model.specs.Module.{Module, row_count}
use Rattle.type_model.specs.Rows.{type_refs, type_specs}
use Rattle.type_model.specs.TypeIds.{type_ref, bracketed, named_within, spec_leaf, is_type_spec, token_row}
use Rattle.type_model.specs.Ways.{staying}

-- the rows of a table, by their numbers
abbrev pub numbers : Module → ℕ → List ℕ
numbers m table = range_with_len 1 (row_count m table)

-- what each row of TypeRef names
abbrev pub ref_names : Module → List (Option TypeId)
ref_names m = map (type_ref m) (numbers m type_refs)

-- the type in a row of TypeSpec, through at most so many further rows
abbrev pub spec_type : ℕ → Module → ℕ → Option TypeId
spec_type n m s = option_and_then (bracketed (named_within n m)) (spec_leaf m s)

-- what each row of TypeSpec names, through all other rows
abbrev pub spec_names : Module → List (Option TypeId)
spec_names m = map (spec_type (row_count m type_specs - 1) m) (numbers m type_specs)

-- Where a row of TypeSpec leads by what stands in its brackets: to the row that its token names, or
-- else to itself.
abbrev pub leaf_way : Module → ℕ → ℕ → Leaf → Way
leaf_way m s brackets (Core id) = staying s
leaf_way m s brackets (Token token) =
    if is_type_spec m token then (record { to = token_row token; brackets = brackets }) else staying s

abbrev pub found_way : Module → ℕ → Option (ℕ × Leaf) → Way
found_way m s None = staying s
found_way m s (Some found) = leaf_way m s found.0 found.1

abbrev pub spec_way : Module → ℕ → Way
spec_way m s = found_way m s (spec_leaf m s)

-- the table of these ways, from row 0, which isn't there
abbrev pub spec_ways : Module → List Way
spec_ways m = map (spec_way m) (range_with_len 0 (row_count m type_specs + 1))
