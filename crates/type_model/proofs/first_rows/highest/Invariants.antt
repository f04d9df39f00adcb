use Rattle.std.proofs.Common.{◌<◌, ◌≤◌, ℕ, [], get_or}
use Rattle.type_model.proofs.first_rows.highest.Given as goal

abbrev pub invariant-loop-row : goal.invariant-loop-row
invariant-loop-row l = (k : ℕ) → k < l.row-index → get_or (get_or l.rows k []) l.column 0 ≤ l.highest
