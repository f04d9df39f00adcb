use Rattle.stub_maker.specs.InOrder.{file_in_order}
use Rattle.stub_maker.proofs.laws.known_is_in_order.Goals as goal

pub returns : goal.returns
returns c = file_in_order
