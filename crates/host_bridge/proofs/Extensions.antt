-- A run with more calls after its own, and more fuel.
use Rattle.std.proofs.Common.{◌≡◌, ◌∙◌, ℕ, ◌+◌, ◌-◌, ◌<◌, List, [], ◌++◌, get_or, Some, None, arith, refl, sym, ap, subst}
use Rattle.bound_base.specs.declared.limits.Lane.{Lane}
use Rattle.runs.specs.Machines.{Goes}
use Rattle.runs.proofs.Simulations.{Beside, Led, led}
use Rattle.host_bridge.specs.SymbolRun.{Call, SymbolState, begun, symbol_machine}
use Rattle.host_bridge.specs.SymbolParts.{SymbolRan}
use Rattle.host_bridge.proofs.Events.{Event, Begins, GoesOn, Ends, Moves, moves, goes_by, takes_fuel, no_pieces}

-- an event beside another one puts and enters nothing either
pub beside_of : (lane : Lane) (stack : ℕ) (R : SymbolState → SymbolState → Type 0) (new other other' : SymbolState) (output log : List ⊥)
    → Moves lane stack other other' → R new other' → Beside (symbol_machine lane stack) R new other output log
beside_of lane stack R new other other' output log it is = record {
  other' = other';
  goes =
      goes_by lane stack other other' it.left it.event
      ∙ ap (λ (out : List ⊥). Goes other' out []) (sym (no_pieces output))
      ∙ ap (λ (entries : List ⊥). Goes other' output entries) (sym (no_pieces log));
  beside = is;
}

-- a run of which each event has one beside it leads the other along
pub led_along : (lane : Lane) (stack : ℕ) (R : SymbolState → SymbolState → Type 0)
    → ((old new other : SymbolState) → R old other → Moves lane stack old new → (other' : SymbolState) × Moves lane stack other other' × R new other')
    → (old new other : SymbolState) → R old other → SymbolRan lane stack old new → Led (symbol_machine lane stack) R new other [] []
led_along lane stack R along old new other is ran =
    led (symbol_machine lane stack) (symbol_machine lane stack) (takes_fuel lane stack) (takes_fuel lane stack) R
    (λ from to with output log it e.
    let one = along from to with it (moves lane stack from to output log e) in
    beside_of lane stack R to with one.0 output log one.1 one.2)
    old new other [] [] is ran

abbrev pub extended : List Call → ℕ → SymbolState → SymbolState
extended extra more run = record run { calls = run.calls ++ extra; fuel = run.fuel + more }

extended_event : (lane : Lane) (stack : ℕ) (extra : List Call) (more : ℕ) (run new : SymbolState) → 0 < run.fuel → Event lane stack run new
    → Event lane stack (extended extra more run) (extended extra more new)
extended_event lane stack extra more run new left (Begins call rest native calls) =
    let fuels : run.fuel + more - 1 ≡ run.fuel - 1 + more = omega arith in
    subst (λ (fuel : ℕ). Event lane stack (extended extra more run) (record (extended extra more (begun lane stack run call rest)) { fuel = fuel })) fuels
    (Begins call (rest ++ extra) native (ap (λ (waits : List Call). waits ++ extra) calls))
extended_event lane stack extra more run new left (GoesOn regs regs' space native next) =
    let fuels : run.fuel + more - 1 ≡ run.fuel - 1 + more = omega arith in
    subst (λ (fuel : ℕ). Event lane stack (extended extra more run) (record (extended extra more run) { native = Some regs'; space = space; fuel = fuel })) fuels
    (GoesOn regs regs' space native next)
extended_event lane stack extra more run new left (Ends regs native next) =
    let fuels : run.fuel + more - 1 ≡ run.fuel - 1 + more = omega arith in
    subst (λ (fuel : ℕ). Event lane stack (extended extra more run) (record (extended extra more run) { native = None; answer = get_or regs.x 10 0; fuel = fuel })) fuels
    (Ends regs native next)

-- the other run is this one extended
abbrev pub IsExtended : List Call → ℕ → SymbolState → SymbolState → Type 0
IsExtended extra more run other = other ≡ extended extra more run

pub led_extended : (lane : Lane) (stack : ℕ) (extra : List Call) (more : ℕ) (run last : SymbolState) → SymbolRan lane stack run last
    → SymbolRan lane stack (extended extra more run) (extended extra more last)
led_extended lane stack extra more run last ran =
    let it : Led (symbol_machine lane stack) (IsExtended extra more) last (extended extra more run) [] [] =
    led_along lane stack (IsExtended extra more)
    (λ old new other is moved.
    let left : 0 < old.fuel = moved.left in
    let there : Moves lane stack (extended extra more old) (extended extra more new) =
    record { left = omega arith; event = extended_event lane stack extra more old new left moved.event } in
    (extended extra more new, subst (λ (from : SymbolState). Moves lane stack from (extended extra more new)) (sym is) there, refl))
    run last (extended extra more run) refl ran in
    subst (λ (to : SymbolState). SymbolRan lane stack (extended extra more run) to) it.beside it.ran
