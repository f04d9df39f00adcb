use Rattle.std.proofs.Common.{◌≡◌, length, Ok}
use Rattle.body_reader.specs.Code.{first_from, marks}
use Rattle.body_reader.proofs.code.read_starts.Given as goal

abbrev pub invariant-loop-at : goal.invariant-loop-at
invariant-loop-at l = record {
  next : first_from l.code l.at ≡ Ok l.next;
  starts : l.starts ≡ marks l.code l.at;
  size : length l.starts ≡ l.at;
}
