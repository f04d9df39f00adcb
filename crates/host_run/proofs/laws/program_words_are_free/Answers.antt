use Rattle.host_run.proofs.Program.{program_words_are_free}
use Rattle.host_run.proofs.laws.program_words_are_free.Goals as goal

pub returns : goal.returns
returns c = program_words_are_free
