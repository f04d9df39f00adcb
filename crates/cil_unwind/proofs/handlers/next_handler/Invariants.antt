use Rattle.std.proofs.Common.{◌≡◌, ℕ, Bool}
use Rattle.cil_unwind.specs.Handlers as definition
use Rattle.cil_unwind.proofs.handlers.next_handler.Given as goal

abbrev pub invariant-loop-k : goal.invariant-loop-k
invariant-loop-k g l =
    (matches : ℕ → Bool) → definition.Decides (goal.F-post g l.is_match) matches → definition.handler_of matches l.body.clauses l.at l.from ≡ definition.handler_of matches l.body.clauses l.at l.k
