use Rattle.rv_machine.proofs.Changes.{steps_keep_blocks}
use Rattle.rv_machine.proofs.laws.steps_keep_blocks.Goals as goal

pub returns : goal.returns
returns c = steps_keep_blocks
