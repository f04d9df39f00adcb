use Rattle.lp64_convention.proofs.Widened.{signed_integers_read_back}
use Rattle.lp64_convention.proofs.laws.signed_integers_read_back.Goals as goal

pub returns : goal.returns
returns c = signed_integers_read_back
