use Rattle.std.proofs.Common.{◌≡◌, map}
use Rattle.std.specs.List.{range_with_len}
use Rattle.type_members.specs.Found.{ref_found}
use Rattle.type_members.proofs.member_refs.found_refs.Given as goal

abbrev pub invariant-loop-before : goal.invariant-loop-before
invariant-loop-before l = l.found ≡ map (ref_found l.types) (range_with_len 1 l.before)
