use Rattle.type_members.proofs.LawsOfMembers.{plain_answers}
use Rattle.type_members.proofs.laws.plain_methods_answer_themselves.Goals as goal

pub returns : goal.returns
returns c = plain_answers
