-- Chains: where a node leads in a number of steps, if a table names the next node of each.
use Rattle.std.specs.Prelude.{ℕ, zero, suc, List, slice_index_or}

-- the next node of one; a node past the table's end leads to itself
abbrev pub next_in : List ℕ → ℕ → ℕ
next_in table node = slice_index_or table node node

unfoldable pub after : List ℕ → ℕ → ℕ → ℕ
after table zero node = node
after table (suc steps) node = after table steps (next_in table node)
