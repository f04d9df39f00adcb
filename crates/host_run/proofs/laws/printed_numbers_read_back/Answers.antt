use Rattle.host_run.proofs.ReadBack.{printed_numbers_read_back}
use Rattle.host_run.proofs.laws.printed_numbers_read_back.Goals as goal

pub returns : goal.returns
returns c = printed_numbers_read_back
