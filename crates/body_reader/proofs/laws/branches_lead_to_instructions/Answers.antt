use Rattle.body_reader.proofs.Branches.{branches_lead}
use Rattle.body_reader.proofs.laws.branches_lead_to_instructions.Goals as goal

pub returns : goal.returns
returns c = branches_lead
