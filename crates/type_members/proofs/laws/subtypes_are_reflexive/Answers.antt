use Rattle.type_members.specs.Subtypes.{Itself}
use Rattle.type_members.proofs.laws.subtypes_are_reflexive.Goals as goal

pub returns : goal.returns
returns c = λ m a. Itself a
