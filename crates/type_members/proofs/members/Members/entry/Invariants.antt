use Rattle.std.proofs.Common.{◌≡◌, drop}
use Rattle.type_members.specs.Chosen.{entry}
use Rattle.type_members.proofs.members.Members.entry.Given as goal

abbrev pub invariant-loop-id : goal.invariant-loop-id
invariant-loop-id l = entry l.self l.x l.ids ≡ entry l.self l.x (drop l.id-index l.ids)
