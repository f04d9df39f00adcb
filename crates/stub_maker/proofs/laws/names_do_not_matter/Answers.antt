use Rattle.stub_maker.proofs.Alike.{alike}
use Rattle.stub_maker.proofs.laws.names_do_not_matter.Goals as goal

pub returns : goal.returns
returns c = alike
