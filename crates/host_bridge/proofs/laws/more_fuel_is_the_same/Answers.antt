use Rattle.host_bridge.proofs.MoreFuel.{more_fuel_is_the_same}
use Rattle.host_bridge.proofs.laws.more_fuel_is_the_same.Goals as goal

pub returns : goal.returns
returns c = more_fuel_is_the_same
