use Rattle.std.proofs.Common.{◌<◌, length, arith}
use Rattle.type_members.specs.Chosen.{answered_by}
use Rattle.type_members.proofs.SlotPlaces.{changed_here}
use Rattle.type_members.proofs.slots.answer_all.Goals as goal

pub loop-slot-preserved : goal.loop-slot-preserved
loop-slot-preserved c =
    let within : c.loop-slot.slot-index < length c.loop-slot.slot-items = omega (arith, c.loop-slot-test.true, c.loop-slot.auto.slot-items) in
    changed_here (answered_by c.args.declaration c.args.body) c.deref_mut-slot-items.result.now c.loop-slot.slot-items
    c.loop-slot.slot-index c.slot-item.result c.answer.new.slot c.loop-slot.auto.slot-items within c.loop-slot.invariant
    c.answer.ensures
