use Rattle.std.proofs.Common.{◌≡◌, ◌+◌, drop}
use Rattle.type_members.specs.Akin.{place_for}
use Rattle.type_members.specs.View.{view_slots}
use Rattle.type_members.proofs.members.Members.place_for.Given as goal

abbrev pub invariant-loop-place : goal.invariant-loop-place
invariant-loop-place l = place_for l.self l.x (view_slots l.slots) ≡ l.place + place_for l.self l.x (view_slots (drop l.place l.slots))
