use Rattle.host_run.specs.Grammar.{texts}
use Rattle.host_run.proofs.Outcomes.{call-made, call-counts}
use Rattle.host_run.proofs.top_call.host.Goals as goal

pub returns-clause-called : goal.returns-clause-called
returns-clause-called g c = call-made (texts c.args.words.now) c.carry_out-ending.result c.close.result _ _ _ c.carry_out-ending.ensures c.close.ensures.closed

pub returns-clause-counts : goal.returns-clause-counts
returns-clause-counts g c = call-counts _ _ c.carry_out-ending.result c.close.result _ _ _ c.carry_out-ending.ensures c.close.ensures.closed c.close.ensures.count
