use Rattle.byte_view.proofs.Agreeing as proved
use Rattle.byte_view.proofs.laws.headers_and_metadata_decide.Goals as goal

pub returns : goal.returns
returns c = proved.headers_and_metadata_decide
