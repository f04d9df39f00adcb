use Rattle.std.proofs.Common.{◌<◌}
use Rattle.native_bench.proofs.reads.sum_of_reads.Given as goal

abbrev pub invariant-loop-turn : goal.invariant-loop-turn
invariant-loop-turn l = (l.number < l.blocks) × (l.stride < l.blocks)
