use Rattle.lp64_convention.proofs.Widened.{unsigned_words_are_sign_extended}
use Rattle.lp64_convention.proofs.laws.unsigned_words_are_sign_extended.Goals as goal

pub returns : goal.returns
returns c = unsigned_words_are_sign_extended
