use Rattle.object_store.proofs.GivesBack as lemmas
use Rattle.object_store.proofs.laws.gives_back.Goals as goal

pub returns : goal.returns
returns c = lemmas.gives_back
