use Rattle.std.proofs.Common.{◌≡◌, ◌+◌, ◌^◌, ◌≤◌, min, sum, map, drop}
use Rattle.native_layout.proofs.outlines.sum_of_parts.Given as goal

abbrev pub invariant-loop-field : goal.invariant-loop-field
invariant-loop-field l = record {
  sum : min (sum (map (λ o. o.parts) l.fields)) (2 ^ 20 + 1)
      ≡ min (l.sum + sum (map (λ o. o.parts) (drop l.field-index l.fields))) (2 ^ 20 + 1);
  within : l.sum ≤ 2 ^ 20 + 1;
}
