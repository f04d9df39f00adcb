use Rattle.std.proofs.Common.{◌≡◌, ◌<◌, ◌≤◌, ◌+◌, ℕ, [], length, get_or, drop}
use Rattle.type_model.specs.FirstRows.{first_number}
use Rattle.type_model.proofs.first_rows.first_by.Given as goal

abbrev pub invariant-loop-left : goal.invariant-loop-left
invariant-loop-left l = record {
  within : l.left ≤ length l.rows;
  small : (k : ℕ) → k < length l.rows → get_or (get_or l.rows k []) l.column 0 < length l.firsts.items;
  told : (value : ℕ) → get_or l.firsts.items value 0 ≡ first_number (l.left + 1) l.column value (drop l.left l.rows);
}

abbrev pub decreases-loop-left : goal.decreases-loop-left
decreases-loop-left l = l.left
