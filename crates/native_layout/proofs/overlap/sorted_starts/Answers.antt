use Rattle.std.proofs.Common.{ℕ}
use Rattle.std.proofs.lemmas.List.Sorted.{IsNonDecreasingBy-from_sort}
use Rattle.native_layout.specs.declared.extent.Range.{Range}
use Rattle.native_layout.proofs.Counts.{count_by-sorted_numbers}
use Rattle.native_layout.proofs.overlap.sorted_starts.Goals as goal

pub returns : goal.returns
returns c = record {
  ascend = IsNonDecreasingBy-from_sort (λ (x : ℕ). x) _ c.sort_unstable.ensures.sorted;
  counts = λ p. count_by-sorted_numbers (λ (r : Range). r.start) p c.args.ranges.now _ _ c.in_ok-starts.ensures c.sort_unstable.ensures.permutation;
}
