use Rattle.body_reader.proofs.Branches.{switches_lead}
use Rattle.body_reader.proofs.laws.switches_lead_to_instructions.Goals as goal

pub returns : goal.returns
returns c = switches_lead
