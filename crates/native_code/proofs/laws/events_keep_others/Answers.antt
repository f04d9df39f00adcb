use Rattle.native_code.proofs.EventChanges.{events_keep_others}
use Rattle.native_code.proofs.laws.events_keep_others.Goals as goal

pub returns : goal.returns
returns c = events_keep_others
