use Rattle.std.proofs.Common.{◌≡◌, drop}
use Rattle.std.specs.Prelude.{filter, slice_index, ◌==◌}
use Rattle.std.specs.List.{flat_map, list_any}
use Rattle.type_model.specs.TypeIds.{same_type, named, coded_token}
use Rattle.type_members.specs.Subtypes.{listed}
use Rattle.type_members.proofs.members.Members.has_interface.Given as goal

abbrev pub invariant-loop-row : goal.invariant-loop-row
invariant-loop-row l =
    list_any (same_type l.interface) (flat_map (λ numbers. listed (named l.self (coded_token (slice_index numbers 1))))
    (filter (λ numbers. slice_index numbers 0 == l.id.base) l.row-items))
    ≡ list_any (same_type l.interface) (flat_map (λ numbers. listed (named l.self (coded_token (slice_index numbers 1))))
    (filter (λ numbers. slice_index numbers 0 == l.id.base) (drop l.row-index l.row-items)))
