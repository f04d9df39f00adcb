use Rattle.native_code.proofs.EntryWords.{entries_hold_words}
use Rattle.native_code.proofs.laws.entries_hold_words.Goals as goal

pub returns : goal.returns
returns c = entries_hold_words
