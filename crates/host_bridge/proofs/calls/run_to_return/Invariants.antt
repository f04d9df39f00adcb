use Rattle.std.proofs.Common.{ℕ, List}
use Rattle.host_bridge.specs.SymbolRun.{Call}
use Rattle.host_bridge.specs.SymbolParts.{running, SymbolRan}
use Rattle.host_bridge.proofs.calls.run_to_return.Given as goal

abbrev pub invariant-loop-fuel : goal.invariant-loop-fuel
invariant-loop-fuel l =
    (stack : ℕ) (rest : List Call) (before : ℕ)
    → SymbolRan l.fn.lane stack (running l.initial.regs rest before l.initial.memory.space l.initial.fuel) (running l.regs rest before l.memory.space l.fuel)

abbrev pub decreases-loop-fuel : goal.decreases-loop-fuel
decreases-loop-fuel l = l.fuel
