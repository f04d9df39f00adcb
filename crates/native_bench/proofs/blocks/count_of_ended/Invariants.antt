use Rattle.std.proofs.Common.{◌≤◌}
use Rattle.native_bench.proofs.blocks.count_of_ended.Given as goal

abbrev pub invariant-loop-base : goal.invariant-loop-base
invariant-loop-base l = l.ended ≤ l.base-index
