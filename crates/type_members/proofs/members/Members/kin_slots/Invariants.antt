use Rattle.std.proofs.Common.{◌≡◌, [], take}
use Rattle.std.specs.Prelude.{fold}
use Rattle.type_members.specs.Akin.{with_akin}
use Rattle.type_members.specs.View.{view_slots}
use Rattle.type_members.proofs.members.Members.kin_slots.Given as goal

abbrev pub invariant-loop-id : goal.invariant-loop-id
invariant-loop-id l = view_slots l.slots.items ≡ fold (with_akin l.self l.x) [] (take l.id-index l.id-items)
