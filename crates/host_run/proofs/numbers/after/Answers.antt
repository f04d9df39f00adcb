use Rattle.host_run.proofs.Numerals.{stripped}
use Rattle.host_run.proofs.numbers.after.Goals as goal

pub returns : goal.returns
returns c = stripped _ _ _ c.strip_prefix.ensures.cases
