use Rattle.host_run.proofs.NativeStatuses.{native_has_five_statuses}
use Rattle.host_run.proofs.laws.native_has_five_statuses.Goals as goal

pub returns : goal.returns
returns c = native_has_five_statuses
