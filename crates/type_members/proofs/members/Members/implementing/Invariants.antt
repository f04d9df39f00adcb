use Rattle.std.proofs.Common.{◌≡◌, drop}
use Rattle.std.specs.Prelude.{find}
use Rattle.std.specs.List.{flat_map}
use Rattle.type_members.specs.Akin.{like}
use Rattle.type_members.specs.Chosen.{implementing}
use Rattle.type_members.proofs.members.Members.implementing.Given as goal

abbrev pub invariant-loop-id : goal.invariant-loop-id
invariant-loop-id l =
    find (like l.self l.x) (flat_map (implementing l.self) l.ids) ≡ find (like l.self l.x) (flat_map (implementing l.self) (drop l.id-index l.ids))
