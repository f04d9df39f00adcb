use Rattle.std.proofs.Common.{◌≡◌, ◌<◌, ◌≤◌, List, length, ap, ◌∙◌, arith}
use Rattle.type_model.specs.Module.{Module}
use Rattle.type_members.specs.Akin.{taken, place_for}
use Rattle.type_members.specs.View.{view_slot, view_slots}
use Rattle.type_members.specs.declared.slots.Slot.{Slot as CodeSlot}
use Rattle.type_members.proofs.SlotPlaces.{taken_at, begun_at}
use Rattle.type_members.proofs.members.Members.take_place.Goals as goal

pub returns-then-place-len : goal.returns-then-place-len
returns-then-place-len c =
    let m : Module = c.args.self.now in
    let at : c.place_for-place.result ≡ place_for m c.args.x (view_slots c.args.slots.now.items) =
    c.place_for-place.ensures ∙ ap (λ (items : List CodeSlot). place_for m c.args.x (view_slots items)) c.as_slice.ensures.value in
    let within : c.place_for-place.result < length c.args.slots.now.items = omega arith in
    taken_at m c.args.x c.args.slots.now.items c.take.new.slot c.place_for-place.result c.index_mut.result.now at within
    (c.in_ok-take.ensures ∙ ap (λ (s : CodeSlot). taken (view_slot s) c.args.x) c.index_mut.ensures.value)

pub returns : goal.returns
returns c =
    let m : Module = c.args.self.now in
    let at : c.place_for-place.result ≡ place_for m c.args.x (view_slots c.args.slots.now.items) =
    c.place_for-place.ensures ∙ ap (λ (items : List CodeSlot). place_for m c.args.x (view_slots items)) c.as_slice.ensures.value in
    let past : length c.args.slots.now.items ≤ c.place_for-place.result = omega arith in
    ap view_slots c.in_ok-push.ensures.items
    ∙ begun_at m c.args.x c.args.slots.now.items c.in_ok-slot_of.field-0 c.place_for-place.result at past c.in_ok-slot_of.ensures
