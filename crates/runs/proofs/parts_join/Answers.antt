use Rattle.runs.proofs.Parts.{ran_more, ends_after, begins_after}
use Rattle.runs.proofs.parts_join.Goals as goal

pub returns-clause-parts : goal.returns-clause-parts
returns-clause-parts g c = ran_more g.M.HasRuns.machine

pub returns-clause-ends : goal.returns-clause-ends
returns-clause-ends g c = ends_after g.M.HasRuns.machine

pub returns-clause-fronts : goal.returns-clause-fronts
returns-clause-fronts g c = begins_after g.M.HasRuns.machine
