use Rattle.flat_types.proofs.Integral.{of_integers}
use Rattle.flat_types.proofs.laws.kept_types_are_of_integers.Goals as goal

pub returns : goal.returns
returns c = of_integers
