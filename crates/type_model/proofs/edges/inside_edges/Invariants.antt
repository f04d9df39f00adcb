use Rattle.std.proofs.Common.{◌≡◌, ◌-◌}
use Rattle.std.specs.List.{range_with_len, flat_map}
use Rattle.type_model.specs.Module.{row_count}
use Rattle.type_model.specs.Rows.{type_defs}
use Rattle.type_model.specs.Part.{held_by}
use Rattle.type_model.proofs.edges.inside_edges.Given as goal

abbrev pub invariant-loop-t : goal.invariant-loop-t
invariant-loop-t l = l.edges.items ≡ flat_map (held_by l.types (row_count l.types type_defs)) (range_with_len 1 (l.t - 1))
