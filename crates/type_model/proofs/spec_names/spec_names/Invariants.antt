use Rattle.std.proofs.Common.{◌≡◌, ◌-◌, map}
use Rattle.std.specs.List.{range_with_len}
use Rattle.type_model.specs.Module.{row_count}
use Rattle.type_model.specs.Rows.{type_specs}
use Rattle.type_model.specs.Names.{spec_type}
use Rattle.type_model.proofs.spec_names.spec_names.Given as goal

abbrev pub invariant-loop-before : goal.invariant-loop-before
invariant-loop-before l = l.names ≡ map (spec_type (row_count l.image type_specs - 1) l.image) (range_with_len 1 l.before)
