use Rattle.body_reader.proofs.Bodies.{starts_reached}
use Rattle.body_reader.proofs.laws.starts_are_reached.Goals as goal

pub returns : goal.returns
returns c = starts_reached
