use Rattle.std.proofs.Common.{◌≡◌, take}
use Rattle.std.specs.List.{flat_map}
use Rattle.type_model.specs.Types.{fields_of_one}
use Rattle.type_model.proofs.model.Types.instance_fields.Given as goal

abbrev pub invariant-loop-at : goal.invariant-loop-at
invariant-loop-at l = l.fields ≡ flat_map (fields_of_one l.self) (take l.at-index l.at-items)
