-- The run of a symbol: the initializers of libraries, and then a function, by calls that no import
-- makes.
use Rattle.std.specs.Prelude.{ℕ, ◌-◌, List, [], ◌∷◌, ◌++◌, map, slice_index, Option, Some, None, Result, Ok, Err, ◌==◌, if◌then◌else◌}
use Rattle.bound_base.specs.declared.ending.Ending.{Ending}
use Rattle.bound_base.specs.declared.ending.Ending.TheVariants.{Returned, Exited, Unhandled, Spent, Bad, Deep, SinkFailed, InitFault, Memory}
use Rattle.bound_base.specs.declared.limits.Lane.{Lane}
use Rattle.lp64_convention.specs.Places.{first_argument_register}
use Rattle.native_memory.specs.AddressSpace.{AddressSpace}
use Rattle.rv_machine.specs.declared.registers.Regs.{Regs}
use Rattle.native_code.specs.Places.{return_place}
use Rattle.native_code.specs.Entry.{first_sp, entry_registers}
use Rattle.native_code.specs.Events.{NativeNext, Continues, Arrives, Faults, native_next}
use Rattle.runs.specs.Machines.{Next, Goes, Stops, Machine, Steps}

-- a call of native code: its address, and its argument words
pub record Call : Type 0 where
  pub at : ℕ
  pub words : List ℕ

-- The state between events: the calls that haven't begun, the registers of the call that goes on,
-- a0 at the end of the last one, memory, and how many events may still come.
pub record SymbolState : Type 0 where
  pub calls : List Call
  pub native : Option Regs
  pub answer : ℕ
  pub space : AddressSpace
  pub fuel : ℕ

-- what comes of a state: the next one, with neither output nor log; or the run's answer or ending
abbrev pub SymbolNext : Type 0
SymbolNext = Next SymbolState ⊥ ⊥ (Result ℕ Ending)

abbrev pub goes : SymbolState → SymbolNext
goes state = Goes state [] []

-- the beginning of a call
abbrev pub begun : Lane → ℕ → SymbolState → Call → List Call → SymbolState
begun lane stack run call rest =
    record run {
      calls = rest;
      native = Some (entry_registers call.at (first_sp lane stack) call.words);
      fuel = run.fuel - 1;
    }

-- the end of a call, which looks at a0 alone
abbrev pub call_ended : SymbolState → Regs → SymbolState
call_ended run regs =
    record run {
      native = None;
      answer = slice_index regs.x first_argument_register;
      fuel = run.fuel - 1;
    }

-- native code has come to a place below memory: the return place ends its call, and each other one
-- is a fault
abbrev pub arrived : SymbolState → Regs → ℕ → SymbolNext
arrived run regs place =
    if place == return_place then goes (call_ended run regs) else Stops (Err (InitFault place))

-- an event of native code
abbrev pub turned : SymbolState → Regs → NativeNext → SymbolNext
turned run regs (Continues regs' space) =
    goes (record run { native = Some regs'; space = space; fuel = run.fuel - 1 })
turned run regs (Arrives place) = arrived run regs place
turned run regs (Faults pc) = Stops (Err (InitFault pc))

-- an event is looked at only where fuel is left
abbrev pub fueled : ℕ → SymbolNext → SymbolNext
fueled fuel next = if fuel == 0 then Stops (Err Spent) else next

-- by the call that goes on, and those that haven't begun
abbrev pub chosen : Lane → ℕ → SymbolState → Option Regs → List Call → SymbolNext
chosen lane stack run (Some regs) calls =
    fueled run.fuel (turned run regs (native_next lane.errno regs run.space))
chosen lane stack run None (call ∷ rest) = fueled run.fuel (goes (begun lane stack run call rest))
chosen lane stack run None [] = Stops (Ok run.answer)

-- one event, where the blocks that native code is entered with are these, and the stack has so many
-- bytes
unfoldable pub symbol_step : Lane → ℕ → SymbolState → SymbolNext
symbol_step lane stack run = chosen lane stack run run.native run.calls

abbrev pub symbol_machine : Lane → ℕ → Machine SymbolState ⊥ ⊥ (Result ℕ Ending)
symbol_machine lane stack = record { step = symbol_step lane stack; fuel = λ run. run.fuel }

-- the state after so many events
abbrev pub symbol_steps : Lane → ℕ → ℕ → SymbolState → SymbolState
symbol_steps lane stack n run = (Steps (symbol_machine lane stack) n run).state

-- how a run ends, and memory then
pub record Outcome : Type 0 where
  pub answer : Result ℕ Ending
  pub space : AddressSpace

-- by what comes of the last state; after as many events as there is fuel, no state goes on
abbrev pub ending_of : SymbolNext → Result ℕ Ending
ending_of (Stops answer) = answer
ending_of (Goes _ _ _) = Err Spent

-- what a state comes to in the end
unfoldable pub outcome : Lane → ℕ → SymbolState → Outcome
outcome lane stack run =
    let last = symbol_steps lane stack run.fuel run in
    record { answer = ending_of (symbol_step lane stack last); space = last.space }

-- an initializer has no arguments
abbrev pub initializer : ℕ → Call
initializer at = record { at = at; words = [] }

-- before the first event
abbrev pub start : List ℕ → ℕ → List ℕ → ℕ → AddressSpace → SymbolState
start inits at words fuel space = record {
  calls = map initializer inits ++ record { at = at; words = words } ∷ [];
  native = None;
  answer = 0;
  space = space;
  fuel = fuel;
}

-- a whole run: the initializers, and then the function at an address with its argument words
abbrev pub symbol_run : Lane → ℕ → List ℕ → ℕ → List ℕ → ℕ → AddressSpace → Outcome
symbol_run lane stack inits at words fuel space =
    outcome lane stack (start inits at words fuel space)

-- a run gives a number, or ends for want of fuel or by a fault
abbrev pub IsSymbolEnding : Result ℕ Ending → Type 0
IsSymbolEnding (Ok number) = Unit {0}
IsSymbolEnding (Err Spent) = Unit {0}
IsSymbolEnding (Err (InitFault pc)) = Unit {0}
IsSymbolEnding (Err (Returned number)) = ⊥
IsSymbolEnding (Err (Exited number)) = ⊥
IsSymbolEnding (Err (Unhandled type)) = ⊥
IsSymbolEnding (Err (Bad token at)) = ⊥
IsSymbolEnding (Err Deep) = ⊥
IsSymbolEnding (Err SinkFailed) = ⊥
IsSymbolEnding (Err Memory) = ⊥
