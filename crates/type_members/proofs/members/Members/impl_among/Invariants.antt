use Rattle.std.proofs.Common.{◌≡◌, drop}
use Rattle.std.specs.Prelude.{find, filter, slice_index, ◌==◌}
use Rattle.type_members.specs.Chosen.{is_for}
use Rattle.type_members.proofs.members.Members.impl_among.Given as goal

abbrev pub invariant-loop-row : goal.invariant-loop-row
invariant-loop-row l =
    find (is_for l.self l.x) (filter (λ numbers. slice_index numbers 0 == l.t) l.row-items)
    ≡ find (is_for l.self l.x) (filter (λ numbers. slice_index numbers 0 == l.t) (drop l.row-index l.row-items))
