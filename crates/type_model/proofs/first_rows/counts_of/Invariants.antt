use Rattle.std.proofs.Common.{◌≡◌, ◌<◌, ℕ, [], length, get_or, take}
use Rattle.type_model.proofs.RowsByNumber.{with_number}
use Rattle.type_model.proofs.first_rows.counts_of.Given as goal

abbrev pub invariant-loop-row : goal.invariant-loop-row
invariant-loop-row l = record {
  small : (k : ℕ) → k < length l.rows → get_or (get_or l.rows k []) l.column 0 < length l.counts.items;
  counted : (value : ℕ) → get_or l.counts.items value 0 ≡ with_number l.column (take l.row-index l.rows) value;
}
