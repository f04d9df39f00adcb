use Rattle.stub_maker.proofs.BackSizes.{bare_sized}
use Rattle.stub_maker.proofs.laws.bare_shapes_are_sized.Goals as goal

pub returns : goal.returns
returns c known k s ordered h = bare_sized known ordered k s h
