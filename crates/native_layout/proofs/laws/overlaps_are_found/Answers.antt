use Rattle.native_layout.proofs.Sharing.{overlaps_are_found}
use Rattle.native_layout.proofs.laws.overlaps_are_found.Goals as goal

pub returns : goal.returns
returns c = overlaps_are_found
