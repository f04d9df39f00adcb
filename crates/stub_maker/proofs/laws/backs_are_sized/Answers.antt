use Rattle.stub_maker.proofs.BackSizes.{back_sized}
use Rattle.stub_maker.proofs.laws.backs_are_sized.Goals as goal

pub returns : goal.returns
returns c known invoke back ordered h = back_sized known ordered invoke back h
