use Rattle.byte_view.proofs.Tables as proved
use Rattle.byte_view.proofs.laws.tables_of_stream_lie_apart.Goals as goal

pub returns : goal.returns
returns c = proved.tables_lie_apart
