use Rattle.std.proofs.Common.{◌≡◌, ◌+◌, drop, length}
use Rattle.std.specs.Prelude.{sum_by}
use Rattle.host_run.specs.Grammar.{texts}
use Rattle.host_run.proofs.words.fits_program.Given as goal

abbrev pub invariant-loop-word : goal.invariant-loop-word
invariant-loop-word l = sum_by length (texts l.words) + l.room ≡ 16777216 + sum_by length (drop l.word-index (texts l.words))
