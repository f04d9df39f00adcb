use Rattle.body_reader.proofs.Bodies.{fill_code}
use Rattle.body_reader.proofs.laws.instructions_fill_code.Goals as goal

pub returns : goal.returns
returns c = fill_code
