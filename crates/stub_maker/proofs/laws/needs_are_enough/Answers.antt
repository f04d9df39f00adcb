use Rattle.stub_maker.proofs.OnlyNeeds.{enough}
use Rattle.stub_maker.proofs.laws.needs_are_enough.Goals as goal

pub returns : goal.returns
returns c = enough
