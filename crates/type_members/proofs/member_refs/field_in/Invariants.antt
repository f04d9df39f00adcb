use Rattle.std.proofs.Common.{◌≡◌}
use Rattle.std.specs.Prelude.{find}
use Rattle.type_model.specs.Types.{run}
use Rattle.type_members.specs.Found.{is_field}
use Rattle.type_members.proofs.member_refs.field_in.Given as goal

abbrev pub invariant-loop-f : goal.invariant-loop-f
invariant-loop-f l =
    find (is_field l.types l.name l.words) (run l.initial.f l.end) ≡ find (is_field l.types l.name l.words) (run l.f l.end)
