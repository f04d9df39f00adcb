use Rattle.bound_base.proofs.Printed.{printed_apart}
use Rattle.bound_base.proofs.laws.printed_names_differ.Goals as goal

pub returns : goal.returns
returns c = printed_apart
