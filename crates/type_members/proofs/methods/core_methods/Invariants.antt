use Rattle.std.proofs.Common.{◌≡◌, map, filter}
use Rattle.std.specs.List.{range_with_len}
use Rattle.type_members.specs.declared.member.Member.TheVariants.{Core}
use Rattle.type_members.specs.CoreMembers.{core_member_at}
use Rattle.type_members.specs.Chosen.{is_owned}
use Rattle.type_members.proofs.methods.core_methods.Given as goal

abbrev pub invariant-loop-place : goal.invariant-loop-place
invariant-loop-place l = l.members ≡ map Core (filter (λ k. is_owned l.owner (core_member_at k)) (range_with_len 0 l.place))
