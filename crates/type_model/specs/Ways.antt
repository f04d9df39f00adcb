-- Ways along a table that says of each node which node follows, and in how many more brackets.
use Rattle.std.specs.Prelude.{ℕ, zero, suc, ◌+◌, ◌^◌, List, min, slice_index_or}
use Rattle.type_model.specs.declared.ways.Way.{Way}

-- so many brackets are too many to count, and so are more
abbrev pub too_many : ℕ
too_many = 2 ^ 32

abbrev pub staying : ℕ → Way
staying node = record { to = node; brackets = 0 }

-- a node past the table's end stays
abbrev pub way_from : List Way → ℕ → Way
way_from table node = slice_index_or table node (staying node)

-- one way and then another
abbrev pub joined : Way → Way → Way
joined a b = record { to = b.to; brackets = min (a.brackets + b.brackets) too_many }

-- so many steps on from a node
unfoldable pub way_after : List Way → ℕ → ℕ → Way
way_after table zero node = staying node
way_after table (suc steps) node =
    joined (way_from table node) (way_after table steps (way_from table node).to)

-- a way, and so many steps on from its end
abbrev pub prolonged : List Way → ℕ → Way → Way
prolonged table steps way = joined way (way_after table steps way.to)
