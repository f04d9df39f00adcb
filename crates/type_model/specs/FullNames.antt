-- The full name of a type: namespace, name and enclosing types.
use Rattle.std.specs.Prelude.{ℕ, zero, suc, ◌-◌, ◌==◌, List, [], ◌∷◌, ◌++◌, length, codes, option_map, unwrap_or, if◌then◌else◌}
use Rattle.managed_value.specs.declared.names.TypeId.{TypeId}
use Rattle.type_model.specs.Module.{Module, row_count}
use Rattle.type_model.specs.Rows.{type_defs, type_name, type_namespace, encloser}
use Rattle.type_model.specs.Core.{CoreType, core_at}
use Rattle.type_model.specs.TypeIds.{row_limit, is_core}

-- the namespace and a dot, where there is a namespace, and the name
abbrev pub qualified : List ℕ → List ℕ → List ℕ
qualified namespace name = if length namespace == 0 then name else namespace ++ 46 ∷ name

abbrev pub own_name : Module → ℕ → List ℕ
own_name m t = qualified (type_namespace m t) (type_name m t)

-- with so many of its enclosing types, each before a `+`
unfoldable pub nested_name : ℕ → Module → ℕ → List ℕ
nested_name zero m t = own_name m t
nested_name (suc n) m t =
    if encloser m t == 0 then own_name m t
    else nested_name n m (encloser m t) ++ 43 ∷ own_name m t

abbrev pub core_name : CoreType → List ℕ
core_name known = qualified known.namespace known.name

-- no type of an accepted file encloses itself, so none has more enclosing types than there are types
unfoldable pub base_name : Module → ℕ → List ℕ
base_name m base =
    if is_core base then unwrap_or (option_map core_name (core_at (base - row_limit))) []
    else nested_name (row_count m type_defs) m base

-- `[]` for each time that it is an array
unfoldable pub brackets : ℕ → List ℕ
brackets zero = []
brackets (suc n) = brackets n ++ codes "[]"

unfoldable pub full_name : Module → TypeId → List ℕ
full_name m id = base_name m id.base ++ brackets id.arrays
