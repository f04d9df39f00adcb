use Rattle.body_reader.proofs.Bodies.{follow}
use Rattle.body_reader.proofs.laws.instructions_follow.Goals as goal

pub returns : goal.returns
returns c = follow
