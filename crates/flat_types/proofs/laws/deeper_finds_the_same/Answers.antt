use Rattle.flat_types.proofs.Levels.{deeper}
use Rattle.flat_types.proofs.laws.deeper_finds_the_same.Goals as goal

pub returns : goal.returns
returns c = λ m t n more s is. deeper m n more t s is
