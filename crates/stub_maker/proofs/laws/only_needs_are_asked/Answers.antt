use Rattle.stub_maker.proofs.OnlyNeeds.{only_needs}
use Rattle.stub_maker.proofs.laws.only_needs_are_asked.Goals as goal

pub returns : goal.returns
returns c = only_needs
