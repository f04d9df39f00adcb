use Rattle.byte_view.proofs.Heads as proved
use Rattle.byte_view.proofs.laws.rest_is_not_read.Goals as goal

pub returns : goal.returns
returns c = proved.rest_is_not_read
