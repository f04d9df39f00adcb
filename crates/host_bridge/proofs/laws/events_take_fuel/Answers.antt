use Rattle.host_bridge.proofs.Events.{takes_fuel}
use Rattle.host_bridge.proofs.laws.events_take_fuel.Goals as goal

pub returns : goal.returns
returns c = takes_fuel
