use Rattle.lp64_convention.proofs.Widened.{narrow_unsigned_integers_read_back}
use Rattle.lp64_convention.proofs.laws.narrow_unsigned_integers_read_back.Goals as goal

pub returns : goal.returns
returns c = narrow_unsigned_integers_read_back
