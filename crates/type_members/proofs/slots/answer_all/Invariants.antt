use Rattle.std.proofs.Common.{◌≡◌, ◌++◌, map, take, drop}
use Rattle.type_members.specs.Chosen.{answered_by}
use Rattle.type_members.specs.View.{view_slots}
use Rattle.type_members.proofs.slots.answer_all.Given as goal

abbrev pub invariant-loop-slot : goal.invariant-loop-slot
invariant-loop-slot l =
    view_slots l.slot-items ≡ map (answered_by l.declaration l.body) (take l.slot-index (view_slots l.initial.slot-items))
    ++ drop l.slot-index (view_slots l.initial.slot-items)
