use Rattle.std.proofs.Common.{◌≡◌}
use Rattle.std.specs.Prelude.{find}
use Rattle.type_model.specs.Types.{run}
use Rattle.type_members.specs.Found.{is_method}
use Rattle.type_members.proofs.member_refs.method_in.Given as goal

abbrev pub invariant-loop-n : goal.invariant-loop-n
invariant-loop-n l =
    find (is_method l.types l.name l.words) (run l.initial.n l.end) ≡ find (is_method l.types l.name l.words) (run l.n l.end)
