use Rattle.std.proofs.Common.{◌≡◌, ◌&&◌, take}
use Rattle.std.specs.Prelude.{filter, fold}
use Rattle.type_members.specs.Akin.{akin}
use Rattle.type_members.specs.Chosen.{with_method, is_virtual}
use Rattle.type_members.specs.View.{view_slots}
use Rattle.type_members.proofs.members.Members.add_methods.Given as goal

abbrev pub invariant-loop-y : goal.invariant-loop-y
invariant-loop-y l =
    view_slots l.slots.items ≡ fold (with_method l.self) (view_slots l.fn.slots.items)
    (filter (λ z. is_virtual l.self z && akin l.self l.x z) (take l.y-index l.methods))
