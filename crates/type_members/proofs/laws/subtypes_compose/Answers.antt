use Rattle.type_members.proofs.Composing.{compose}
use Rattle.type_members.proofs.laws.subtypes_compose.Goals as goal

pub returns : goal.returns
returns c = compose
