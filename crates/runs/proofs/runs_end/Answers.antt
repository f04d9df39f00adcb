use Rattle.runs.proofs.Parts.{fuel_leads_to_ends}
use Rattle.runs.proofs.RunEnds as laws
use Rattle.runs.proofs.runs_end.Goals as goal

pub returns-clause-once : goal.returns-clause-once
returns-clause-once g c = fuel_leads_to_ends g.M.HasRuns.machine

pub returns-clause-always : goal.returns-clause-always
returns-clause-always g c = laws.runs_end g.M.HasRuns.machine
