use Rattle.rv_machine.proofs.ZeroRegister.{zero_register_is_free}
use Rattle.rv_machine.proofs.laws.zero_register_is_free.Goals as goal

pub returns : goal.returns
returns c = zero_register_is_free
