use Rattle.type_members.proofs.LawsOfMembers.{handle_first}
use Rattle.type_members.proofs.laws.handle_is_a_core_member.Goals as goal

pub returns : goal.returns
returns c = handle_first
