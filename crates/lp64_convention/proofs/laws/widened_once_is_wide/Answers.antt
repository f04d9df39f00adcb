use Rattle.lp64_convention.proofs.Widened.{widened_once_is_wide}
use Rattle.lp64_convention.proofs.laws.widened_once_is_wide.Goals as goal

pub returns : goal.returns
returns c = widened_once_is_wide
