use Rattle.native_layout.proofs.Ascending.{multiples}
use Rattle.native_layout.proofs.laws.sizes_are_multiples.Goals as goal

pub returns : goal.returns
returns c = multiples
