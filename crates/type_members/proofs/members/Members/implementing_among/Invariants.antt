use Rattle.std.proofs.Common.{◌≡◌, drop}
use Rattle.std.specs.Prelude.{find, filter}
use Rattle.type_members.specs.Akin.{like}
use Rattle.type_members.specs.Chosen.{may_implement}
use Rattle.type_members.proofs.members.Members.implementing_among.Given as goal

abbrev pub invariant-loop-y : goal.invariant-loop-y
invariant-loop-y l =
    find (like l.self l.x) (filter (may_implement l.self) l.methods) ≡ find (like l.self l.x) (filter (may_implement l.self) (drop l.y-index l.methods))
