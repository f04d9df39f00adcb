use Rattle.stub_maker.proofs.Orderly.{orderly}
use Rattle.stub_maker.proofs.laws.stubs_are_orderly.Goals as goal

pub returns : goal.returns
returns c = orderly
