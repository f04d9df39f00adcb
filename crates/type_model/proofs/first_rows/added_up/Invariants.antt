use Rattle.std.proofs.Common.{◌≡◌, ◌<◌, ◌≤◌, ◌+◌, ℕ, length, get_or, take}
use Rattle.std.specs.Prelude.{sum}
use Rattle.type_model.proofs.first_rows.added_up.Given as goal

abbrev pub invariant-loop-count : goal.invariant-loop-count
invariant-loop-count l = record {
  added : l.total ≡ sum (take l.count-index l.initial.count-items);
  done : (k : ℕ) → k < l.count-index → get_or l.count-items k 0 ≡ sum (take (k + 1) l.initial.count-items);
  size : length l.count-items ≡ length l.initial.count-items;
  left : (k : ℕ) → l.count-index ≤ k → get_or l.count-items k 0 ≡ get_or l.initial.count-items k 0;
}
