use Rattle.native_layout.proofs.Ascending.{lie_within}
use Rattle.native_layout.proofs.laws.fields_lie_within.Goals as goal

pub returns : goal.returns
returns c = lie_within
