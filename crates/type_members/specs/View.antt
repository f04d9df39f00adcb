-- The code's values as those of the definitions.
use Rattle.type_members.specs.declared.core_members.CoreMember.{CoreMember as CodeMember}
use Rattle.std.specs.Prelude.{List, map, reverse}
use Rattle.type_members.specs.declared.slots.Slot.{Slot as CodeSlot}
use Rattle.type_members.specs.CoreMembers.{CoreMember}
use Rattle.type_members.specs.Chosen.{Slot}

abbrev pub view_member : CodeMember → CoreMember
view_member known = record {
  owner = known.owner;
  name = known.name.now;
  kind = known.kind;
  params = known.params.now;
  result = known.result;
}

-- a slot, whose members stand in the order in which they came
abbrev pub view_slot : CodeSlot → Slot
view_slot slot = record { first = slot.first; members = reverse slot.members; body = slot.body }

abbrev pub view_slots : List CodeSlot → List Slot
view_slots slots = map view_slot slots
