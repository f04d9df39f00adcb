-- Parts of a run of a symbol, and what the code says of them.
use Rattle.std.specs.Prelude.{◌≡◌, ℕ, true, List, [], Some, None, Result, Ok, Err}
use Rattle.bound_base.specs.declared.ending.Ending.{Ending}
use Rattle.bound_base.specs.declared.ending.Ending.TheVariants.{Returned, Exited, Unhandled, Spent, Bad, Deep, SinkFailed, InitFault, Memory}
use Rattle.bound_base.specs.declared.limits.Lane.{Lane}
use Rattle.native_memory.specs.AddressSpace.{AddressSpace}
use Rattle.rv_machine.specs.declared.registers.Regs.{Regs}
use Rattle.native_code.specs.Events.{event_wants}
use Rattle.runs.specs.Runs.{Ran, Ends}
use Rattle.host_bridge.specs.SymbolRun.{Call, SymbolState, goes, symbol_step, symbol_machine, outcome}

-- a state between two calls, and one in a call
abbrev pub waiting : List Call → ℕ → AddressSpace → ℕ → SymbolState
waiting calls answer space fuel = record {
  calls = calls;
  native = None;
  answer = answer;
  space = space;
  fuel = fuel;
}

abbrev pub running : Regs → List Call → ℕ → AddressSpace → ℕ → SymbolState
running regs calls answer space fuel =
    record (waiting calls answer space fuel) { native = Some regs }

-- some events lead from one state to another
abbrev pub SymbolRan : Lane → ℕ → SymbolState → SymbolState → Type 0
SymbolRan lane stack old new = Ran (symbol_machine lane stack) old new [] []

-- some events lead from a state to one at which the run ends, with this answer and this memory
pub record SymbolEnds (lane : Lane) (stack : ℕ)
    (old : SymbolState) (answer : Result ℕ Ending) (space : AddressSpace) : Type 0 where
  pub last : SymbolState
  pub ends : Ends (symbol_machine lane stack) old last [] [] answer
  pub at_end : last.space ≡ space

-- some events lead from a state to one in a call, with this memory, whose next event may find memory
-- wanting; the run would go on there
pub record SymbolPasses (lane : Lane) (stack : ℕ) (old : SymbolState) (space : AddressSpace)
    : Type 0 where
  pub between : SymbolState
  pub ran : SymbolRan lane stack old between
  pub regs : Regs
  pub in_call : between.native ≡ Some regs
  pub wants : event_wants regs between.space ≡ true
  pub next : SymbolState
  pub would_go : symbol_step lane stack between ≡ goes next
  pub at_end : between.space ≡ space

-- By the code's answer: the run has come to the state of that answer, or ends with the memory that
-- this state would have. Where memory was wanting, it has passed a state with this memory, and
-- would go on.
abbrev pub Comes : Lane → ℕ → Result ℕ Ending → SymbolState → (ℕ → SymbolState) → Type 0
Comes lane stack (Ok answer) old new = SymbolRan lane stack old (new answer)
Comes lane stack (Err Spent) old new = SymbolEnds lane stack old (Err Spent) (new 0).space
Comes lane stack (Err (InitFault pc)) old new =
    SymbolEnds lane stack old (Err (InitFault pc)) (new 0).space
Comes lane stack (Err Memory) old new = SymbolPasses lane stack old (new 0).space
Comes lane stack (Err (Returned number)) old new = ⊥
Comes lane stack (Err (Exited number)) old new = ⊥
Comes lane stack (Err (Unhandled type)) old new = ⊥
Comes lane stack (Err (Bad token at)) old new = ⊥
Comes lane stack (Err Deep) old new = ⊥
Comes lane stack (Err SinkFailed) old new = ⊥

-- Why a run has no answer, with the memory that it leaves: it ends so by the definition; or memory
-- was wanting, and it leaves that of a state that it passed, where it would go on. No other ending
-- comes.
abbrev pub EndsBy : Ending → Lane → ℕ → SymbolState → AddressSpace → Type 0
EndsBy Spent lane stack old space =
    outcome lane stack old ≡ record { answer = Err Spent; space = space }
EndsBy (InitFault pc) lane stack old space =
    outcome lane stack old ≡ record { answer = Err (InitFault pc); space = space }
EndsBy Memory lane stack old space = SymbolPasses lane stack old space
EndsBy (Returned number) lane stack old space = ⊥
EndsBy (Exited number) lane stack old space = ⊥
EndsBy (Unhandled type) lane stack old space = ⊥
EndsBy (Bad token at) lane stack old space = ⊥
EndsBy Deep lane stack old space = ⊥
EndsBy SinkFailed lane stack old space = ⊥
