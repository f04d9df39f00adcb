use Rattle.host_run.proofs.ItemsOfLines.{run_lines_are_items}
use Rattle.host_run.proofs.laws.run_lines_are_items.Goals as goal

pub returns : goal.returns
returns c = run_lines_are_items
