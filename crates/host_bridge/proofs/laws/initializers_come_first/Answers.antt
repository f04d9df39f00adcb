use Rattle.host_bridge.proofs.FirstCalls.{initializers_come_first}
use Rattle.host_bridge.proofs.laws.initializers_come_first.Goals as goal

pub returns : goal.returns
returns c = initializers_come_first
