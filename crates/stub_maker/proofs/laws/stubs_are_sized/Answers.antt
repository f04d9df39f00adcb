use Rattle.stub_maker.proofs.Sizes.{stub_sized}
use Rattle.stub_maker.proofs.laws.stubs_are_sized.Goals as goal

pub returns : goal.returns
returns c known i stub ordered h = stub_sized known ordered i stub h
