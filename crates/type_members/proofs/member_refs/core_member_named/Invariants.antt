use Rattle.std.proofs.Common.{◌≡◌, ◌-◌}
use Rattle.std.specs.Prelude.{find}
use Rattle.std.specs.List.{range_with_len}
use Rattle.type_members.specs.CoreMembers.{core_member_at}
use Rattle.type_members.specs.Found.{is_core_member}
use Rattle.type_members.proofs.member_refs.core_member_named.Given as goal

abbrev pub invariant-loop-place : goal.invariant-loop-place
invariant-loop-place l =
    find (λ k. is_core_member l.owner l.name l.words (core_member_at k)) (range_with_len 0 179)
    ≡ find (λ k. is_core_member l.owner l.name l.words (core_member_at k)) (range_with_len l.place (179 - l.place))
