use Rattle.std.proofs.Common.{◌≡◌, ◌++◌, drop}
use Rattle.std.specs.Prelude.{option_map}
use Rattle.host_run.specs.Grammar.{texts, values}
use Rattle.host_run.proofs.words.values.Given as goal

abbrev pub invariant-loop-word : goal.invariant-loop-word
invariant-loop-word l = option_map (λ rest. l.values ++ rest) (values (drop l.word-index (texts l.words))) ≡ values (texts l.words)
