use Rattle.std.proofs.Common.{◌≡◌, map, length}
use Rattle.std.specs.List.{range_with_len}
use Rattle.type_model.specs.Ways.{way_after, prolonged}
use Rattle.type_model.proofs.WaysOn.{counted}
use Rattle.type_model.proofs.ways.ways_after.Given as goal

abbrev pub invariant-loop-left : goal.invariant-loop-left
invariant-loop-left l = record {
  counted : map counted l.ways.items ≡ l.ways.items;
  on : map (prolonged l.jumps.items l.left) l.ways.items ≡ map (way_after l.table l.steps) (range_with_len 0 (length l.table));
}

abbrev pub decreases-loop-left : goal.decreases-loop-left
decreases-loop-left l = l.left
