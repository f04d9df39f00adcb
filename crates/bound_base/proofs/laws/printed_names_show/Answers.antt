use Rattle.bound_base.proofs.Printed.{all_shows}
use Rattle.bound_base.proofs.laws.printed_names_show.Goals as goal

pub returns : goal.returns
returns c = all_shows
