use Rattle.stub_maker.proofs.Crossings.{five_tell}
use Rattle.stub_maker.proofs.laws.five_descriptors_tell.Goals as goal

pub returns : goal.returns
returns c = five_tell
