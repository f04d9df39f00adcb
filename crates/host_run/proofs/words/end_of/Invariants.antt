use Rattle.std.proofs.Common.{◌≡◌, ℕ, ◌<◌, false, [], get_or}
use Rattle.host_run.specs.Grammar.{texts, is_end}
use Rattle.host_run.proofs.words.end_of.Given as goal

abbrev pub invariant-loop-place : goal.invariant-loop-place
invariant-loop-place l = (k : ℕ) → k < l.place → is_end (get_or (texts l.words) k []) ≡ false
