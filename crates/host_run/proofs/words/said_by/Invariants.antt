use Rattle.std.proofs.Common.{◌≡◌, drop}
use Rattle.host_run.specs.Grammar.{texts, no_words, said_by}
use Rattle.host_run.proofs.words.said_by.Given as goal

abbrev pub invariant-loop-word : goal.invariant-loop-word
invariant-loop-word l = said_by l.said (drop l.word-index (texts l.words)) ≡ said_by no_words (texts l.words)
