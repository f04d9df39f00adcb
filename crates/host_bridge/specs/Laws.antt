-- Laws of runs of a symbol.
use Rattle.std.specs.Prelude.{◌≡◌, ◌≢◌, ℕ, ◌+◌, ◌≤◌, List, [], ◌∷◌, Some, Result, Ok, Err}
use Rattle.bound_base.specs.declared.ending.Ending.{Ending}
use Rattle.bound_base.specs.declared.ending.Ending.TheVariants.{Spent, InitFault}
use Rattle.bound_base.specs.declared.limits.Lane.{Lane}
use Rattle.native_memory.specs.AddressSpace.{AddressSpace}
use Rattle.rv_machine.specs.declared.registers.Regs.{Regs}
use Rattle.runs.specs.Machines.{Stops}
use Rattle.runs.specs.Laws as runs
use Rattle.host_bridge.specs.SymbolRun.{SymbolState, symbol_step, symbol_steps, symbol_machine, symbol_run, IsSymbolEnding}

-- a fault names the pc of the call that goes on
abbrev pub FaultsNameTheirPlace : Type 0
FaultsNameTheirPlace =
    (lane : Lane) (stack : ℕ) (run : SymbolState) (pc : ℕ)
    → symbol_step lane stack run ≡ Stops (Err (InitFault pc))
    → (regs : Regs) × (run.native ≡ Some regs) × (pc ≡ regs.pc)

-- an event takes one unit of fuel
abbrev pub EventsTakeFuel : Type 0
EventsTakeFuel = (lane : Lane) (stack : ℕ) → runs.TakesFuel (symbol_machine lane stack)

-- each run has ended after as many events as it has fuel
abbrev pub RunsEnd : Type 0
RunsEnd =
    (lane : Lane) (stack : ℕ) (run : SymbolState)
    → (answer : Result ℕ Ending)
    × (symbol_step lane stack (symbol_steps lane stack run.fuel run) ≡ Stops answer)

-- in one of three ways
abbrev pub RunsEndInThreeWays : Type 0
RunsEndInThreeWays =
    (lane : Lane) (stack : ℕ) (inits : List ℕ) (at : ℕ) (words : List ℕ)
    (fuel : ℕ) (space : AddressSpace)
    → IsSymbolEnding (symbol_run lane stack inits at words fuel space).answer

-- and where it ends, also by a fault, nothing changes any more
abbrev pub EndedRunsStay : Type 0
EndedRunsStay =
    (lane : Lane) (stack : ℕ) (run : SymbolState) (answer : Result ℕ Ending) (n : ℕ)
    → symbol_step lane stack run ≡ Stops answer → symbol_steps lane stack n run ≡ run

-- a run that its fuel doesn't end is the same with more fuel
abbrev pub MoreFuelIsTheSame : Type 0
MoreFuelIsTheSame =
    (lane : Lane) (stack : ℕ) (inits : List ℕ) (at : ℕ) (words : List ℕ)
    (fuel more : ℕ) (space : AddressSpace)
    → (symbol_run lane stack inits at words fuel space).answer ≢ Err Spent
    → symbol_run lane stack inits at words (fuel + more) space
    ≡ symbol_run lane stack inits at words fuel space

-- Of a run that begins with an initializer, by what this one comes to as a function without
-- arguments: where it gives something, the run is that of the rest, from the memory and the fuel
-- that it left, and nothing else of it; where it doesn't, the run ends so.
pub record ComesFirst (lane : Lane) (stack init : ℕ) (inits : List ℕ) (at : ℕ) (words : List ℕ)
    (fuel : ℕ) (space : AddressSpace) : Type 0 where
  pub gives : (answer : ℕ) (after : AddressSpace)
      → symbol_run lane stack [] init [] fuel space ≡ record { answer = Ok answer; space = after }
      → (left : ℕ) × (left + 2 ≤ fuel) × ((more : ℕ)
      → symbol_run lane stack (init ∷ inits) at words (fuel + more) space
      ≡ symbol_run lane stack inits at words (left + more) after)
  pub ends : (ending : Ending) (after : AddressSpace)
      → symbol_run lane stack [] init [] fuel space ≡ record { answer = Err ending; space = after }
      → symbol_run lane stack (init ∷ inits) at words fuel space
      ≡ record { answer = Err ending; space = after }

abbrev pub InitializersComeFirst : Type 0
InitializersComeFirst =
    (lane : Lane) (stack init : ℕ) (inits : List ℕ) (at : ℕ) (words : List ℕ)
    (fuel : ℕ) (space : AddressSpace)
    → ComesFirst lane stack init inits at words fuel space
