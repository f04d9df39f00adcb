use Rattle.byte_view.proofs.Within as proved
use Rattle.byte_view.proofs.laws.tables_lie_in_metadata.Goals as goal

pub returns : goal.returns
returns c = proved.tables_lie_in_metadata
