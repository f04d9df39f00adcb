use Rattle.std.proofs.Common.{◌≡◌, map}
use Rattle.std.specs.List.{range_with_len}
use Rattle.type_model.specs.TypeIds.{type_ref}
use Rattle.type_model.proofs.ref_names.ref_names.Given as goal

abbrev pub invariant-loop-before : goal.invariant-loop-before
invariant-loop-before l = l.names ≡ map (type_ref l.image) (range_with_len 1 l.before)
