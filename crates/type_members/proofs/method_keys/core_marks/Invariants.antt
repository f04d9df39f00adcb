use Rattle.std.proofs.Common.{◌≡◌, map}
use Rattle.std.specs.List.{range_with_len}
use Rattle.type_members.specs.declared.member.Member.TheVariants.{Core}
use Rattle.type_members.specs.Akin.{mark}
use Rattle.type_members.proofs.method_keys.core_marks.Given as goal

abbrev pub invariant-loop-place : goal.invariant-loop-place
invariant-loop-place l = l.marks ≡ map (λ place. mark l.types (Core place)) (range_with_len 0 l.place)
