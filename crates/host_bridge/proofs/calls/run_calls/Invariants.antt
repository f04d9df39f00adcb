use Rattle.std.proofs.Common.{ℕ, [], ◌∷◌, ◌++◌, map, drop}
use Rattle.host_bridge.specs.SymbolRun.{Call, initializer, start}
use Rattle.host_bridge.specs.SymbolParts.{waiting, SymbolRan}
use Rattle.host_bridge.proofs.calls.run_calls.Given as goal

abbrev pub invariant-loop-init : goal.invariant-loop-init
invariant-loop-init l =
    let function : Call = record { at = l.fn.at; words = l.fn.words } in
    (before : ℕ) × SymbolRan l.fn.lane l.fn.stack (start l.fn.inits l.fn.at l.fn.words l.fn.fuel l.fn.memory.space)
    (waiting (map initializer (drop l.init-index l.fn.inits) ++ function ∷ []) before l.memory.space l.left)
