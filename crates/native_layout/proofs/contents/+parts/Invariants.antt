use Rattle.std.proofs.Common.{◌≡◌, ◌+◌, ◌^◌, ◌≤◌, min, sum, map, drop}
use Rattle.native_layout.specs.Shapes.{parts_of}
use Rattle.native_layout.proofs.contents.+parts.Given as goal

abbrev pub invariant-sum_of_parts-loop-shape : goal.invariant-sum_of_parts-loop-shape
invariant-sum_of_parts-loop-shape l = record {
  sum : min (sum (map parts_of l.shapes)) (2 ^ 20 + 1)
      ≡ min (l.sum + sum (map parts_of (drop l.shape-index l.shapes))) (2 ^ 20 + 1);
  within : l.sum ≤ 2 ^ 20 + 1;
}
