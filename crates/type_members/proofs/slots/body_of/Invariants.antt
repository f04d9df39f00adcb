use Rattle.std.proofs.Common.{◌≡◌, drop}
use Rattle.std.specs.Prelude.{find}
use Rattle.type_members.specs.Chosen.{holds}
use Rattle.type_members.specs.View.{view_slots}
use Rattle.type_members.proofs.slots.body_of.Given as goal

abbrev pub invariant-loop-slot : goal.invariant-loop-slot
invariant-loop-slot l = find (holds l.x) (view_slots l.slots) ≡ find (holds l.x) (view_slots (drop l.slot-index l.slots))
