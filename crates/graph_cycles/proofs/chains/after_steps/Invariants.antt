use Rattle.std.proofs.Common.{◌≡◌, map}
use Rattle.graph_cycles.specs.Chains.{after}
use Rattle.graph_cycles.proofs.chains.after_steps.Given as goal

abbrev pub invariant-loop-left : goal.invariant-loop-left
invariant-loop-left l = map (after l.jumps.items l.left) l.ends.items ≡ map (after l.table l.steps) l.nodes

abbrev pub decreases-loop-left : goal.decreases-loop-left
decreases-loop-left l = l.left
