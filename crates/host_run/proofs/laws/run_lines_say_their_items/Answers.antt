use Rattle.host_run.proofs.RunLines.{run_lines_say_their_items}
use Rattle.host_run.proofs.laws.run_lines_say_their_items.Goals as goal

pub returns : goal.returns
returns c = run_lines_say_their_items
