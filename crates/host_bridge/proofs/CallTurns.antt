-- The events of a run, at a state between two calls and at one in a call.
use Rattle.std.proofs.Common.{◌≡◌, ◌≢◌, ◌∙◌, ℕ, ◌-◌, ◌<◌, true, List, [], ◌∷◌, get_or, refl, sym, ap, subst, Result, Ok, Err}
use Rattle.bound_base.specs.declared.ending.Ending.{Ending}
use Rattle.bound_base.specs.declared.ending.Ending.TheVariants.{Returned, Exited, Unhandled, Spent, Bad, Deep, SinkFailed, InitFault, Memory}
use Rattle.bound_base.specs.declared.limits.Lane.{Lane}
use Rattle.native_memory.specs.AddressSpace.{AddressSpace}
use Rattle.rv_machine.specs.declared.registers.Regs.{Regs}
use Rattle.native_code.specs.Places.{return_place}
use Rattle.native_code.specs.Entry.{first_sp, entry_registers}
use Rattle.native_code.specs.Events.{NativeNext, Continues, Arrives, Faults, native_next, event_wants}
use Rattle.native_code.specs.EventAnswers.{GoesOn}
use Rattle.host_bridge.specs.SymbolRun.{Call, SymbolState, goes, symbol_step}
use Rattle.host_bridge.specs.SymbolParts.{waiting, running, SymbolRan, SymbolEnds, SymbolPasses, Comes}
use Rattle.host_bridge.proofs.Events.{Begins, GoesOn as NativeGoesOn, Ends, goes_by}
use Rattle.host_bridge.proofs.Halts.{InCall, Before, Faulted, Lost, Strays, Finished, NoFuel, Strayed, stops}
use Rattle.host_bridge.proofs.Parts.{ran_none, ran_one, ran_more, ends_here, ends_after, passes_after}

-- the beginning of a call
pub begins : (lane : Lane) (stack : ℕ) (call : Call) (regs : Regs) (rest : List Call) (answer : ℕ) (space : AddressSpace) (fuel : ℕ) → 0 < fuel
    → regs ≡ entry_registers call.at (first_sp lane stack) call.words
    → SymbolRan lane stack (waiting (call ∷ rest) answer space fuel) (running regs rest answer space (fuel - 1))
begins lane stack call regs rest answer space fuel left is =
    let first : Regs = entry_registers call.at (first_sp lane stack) call.words in
    subst (λ (x : Regs). SymbolRan lane stack (waiting (call ∷ rest) answer space fuel) (running x rest answer space (fuel - 1))) (sym is)
    (ran_one lane stack (waiting (call ∷ rest) answer space fuel) (running first rest answer space (fuel - 1))
    (goes_by lane stack (waiting (call ∷ rest) answer space fuel) (running first rest answer space (fuel - 1)) left (Begins call rest refl refl)))

-- native code goes on
native_step : (lane : Lane) (stack : ℕ) (regs regs' : Regs) (rest : List Call) (answer : ℕ) (space space' : AddressSpace) (fuel : ℕ) → 0 < fuel
    → native_next lane.errno regs space ≡ Continues regs' space'
    → symbol_step lane stack (running regs rest answer space fuel) ≡ goes (running regs' rest answer space' (fuel - 1))
native_step lane stack regs regs' rest answer space space' fuel left next =
    goes_by lane stack (running regs rest answer space fuel) (running regs' rest answer space' (fuel - 1)) left (NativeGoesOn regs regs' space' refl next)

pub goes_on : (lane : Lane) (stack : ℕ) (regs regs' : Regs) (rest : List Call) (answer : ℕ) (space space' : AddressSpace) (fuel : ℕ) → 0 < fuel
    → native_next lane.errno regs space ≡ Continues regs' space'
    → SymbolRan lane stack (running regs rest answer space fuel) (running regs' rest answer space' (fuel - 1))
goes_on lane stack regs regs' rest answer space space' fuel left next =
    ran_one lane stack _ _ (native_step lane stack regs regs' rest answer space space' fuel left next)

-- its call ends
pub call_returns : (lane : Lane) (stack : ℕ) (regs regs' : Regs) (rest : List Call) (answer place : ℕ) (space space' : AddressSpace) (fuel : ℕ) → 0 < fuel
    → native_next lane.errno regs space ≡ Arrives place → place ≡ return_place → regs' ≡ regs → space' ≡ space
    → SymbolRan lane stack (running regs rest answer space fuel) (waiting rest (get_or regs'.x 10 0) space' (fuel - 1))
call_returns lane stack regs regs' rest answer place space space' fuel left next here same_regs same_space =
    let ran : SymbolRan lane stack (running regs rest answer space fuel) (waiting rest (get_or regs.x 10 0) space (fuel - 1)) =
    ran_one lane stack (running regs rest answer space fuel) (waiting rest (get_or regs.x 10 0) space (fuel - 1))
    (goes_by lane stack (running regs rest answer space fuel) (waiting rest (get_or regs.x 10 0) space (fuel - 1)) left
    (Ends regs refl (next ∙ ap (λ p. Arrives p) here))) in
    subst (λ (x : Regs). SymbolRan lane stack (running regs rest answer space fuel) (waiting rest (get_or x.x 10 0) space' (fuel - 1))) (sym same_regs)
    (subst (λ (m : AddressSpace). SymbolRan lane stack (running regs rest answer space fuel) (waiting rest (get_or regs.x 10 0) m (fuel - 1))) (sym same_space) ran)

-- it faults
strays : (lane : Lane) (stack : ℕ) (regs : Regs) (rest : List Call) (answer : ℕ) (space space' : AddressSpace) (fuel pc : ℕ) → 0 < fuel
    → Strays (native_next lane.errno regs space) pc → space' ≡ space
    → SymbolEnds lane stack (running regs rest answer space fuel) (Err (InitFault pc)) space'
strays lane stack regs rest answer space space' fuel pc left it same_space =
    let run : SymbolState = running regs rest answer space fuel in
    subst (λ (m : AddressSpace). SymbolEnds lane stack run (Err (InitFault pc)) m) (sym same_space)
    (ends_here lane stack run (Err (InitFault pc)) (stops lane stack run (Err (InitFault pc)) (Strayed regs pc left refl it)))

pub call_faults : (lane : Lane) (stack : ℕ) (regs : Regs) (rest : List Call) (answer : ℕ) (space space' : AddressSpace) (fuel pc : ℕ) → 0 < fuel
    → native_next lane.errno regs space ≡ Faults pc → space' ≡ space
    → SymbolEnds lane stack (running regs rest answer space fuel) (Err (InitFault pc)) space'
call_faults lane stack regs rest answer space space' fuel pc left next same_space =
    strays lane stack regs rest answer space space' fuel pc left (subst (λ (n : NativeNext). Strays n pc) (sym next) (Faulted pc)) same_space

pub call_is_lost : (lane : Lane) (stack : ℕ) (regs : Regs) (rest : List Call) (answer : ℕ) (space space' : AddressSpace) (fuel place : ℕ) → 0 < fuel
    → native_next lane.errno regs space ≡ Arrives place → place ≢ return_place → space' ≡ space
    → SymbolEnds lane stack (running regs rest answer space fuel) (Err (InitFault place)) space'
call_is_lost lane stack regs rest answer space space' fuel place left next other same_space =
    strays lane stack regs rest answer space space' fuel place left (subst (λ (n : NativeNext). Strays n place) (sym next) (Lost place other)) same_space

-- memory for what it would do is wanting
wants_by : (lane : Lane) (stack : ℕ) (regs : Regs) (rest : List Call) (answer : ℕ) (space space' : AddressSpace) (fuel : ℕ) → 0 < fuel
    → event_wants regs space ≡ true → (next : NativeNext) → native_next lane.errno regs space ≡ next → GoesOn next → space' ≡ space
    → SymbolPasses lane stack (running regs rest answer space fuel) space'
wants_by lane stack regs rest answer space space' fuel left wants (Continues regs' after) is goes_there same_space = record {
  between = running regs rest answer space fuel;
  ran = ran_none lane stack (running regs rest answer space fuel);
  regs = regs;
  in_call = refl;
  wants = wants;
  next = running regs' rest answer after (fuel - 1);
  would_go = native_step lane stack regs regs' rest answer space after fuel left is;
  at_end = sym same_space;
}
wants_by lane stack regs rest answer space space' fuel left wants (Arrives place) is goes_there same_space = absurd goes_there
wants_by lane stack regs rest answer space space' fuel left wants (Faults pc) is goes_there same_space = absurd goes_there

pub wants_memory : (lane : Lane) (stack : ℕ) (regs : Regs) (rest : List Call) (answer : ℕ) (space space' : AddressSpace) (fuel : ℕ) → 0 < fuel
    → event_wants regs space ≡ true → GoesOn (native_next lane.errno regs space) → space' ≡ space
    → SymbolPasses lane stack (running regs rest answer space fuel) space'
wants_memory lane stack regs rest answer space space' fuel left wants goes_there same_space =
    wants_by lane stack regs rest answer space space' fuel left wants (native_next lane.errno regs space) refl goes_there same_space

-- no fuel is left
pub spent_running : (lane : Lane) (stack : ℕ) (regs : Regs) (rest : List Call) (answer : ℕ) (space : AddressSpace) (fuel : ℕ) → fuel ≡ 0
    → SymbolEnds lane stack (running regs rest answer space fuel) (Err Spent) space
spent_running lane stack regs rest answer space fuel none =
    ends_here lane stack (running regs rest answer space fuel) (Err Spent)
    (stops lane stack (running regs rest answer space fuel) (Err Spent) (NoFuel none (InCall regs refl)))

pub spent_waiting : (lane : Lane) (stack : ℕ) (call : Call) (rest : List Call) (answer : ℕ) (space : AddressSpace) (fuel : ℕ) → fuel ≡ 0
    → SymbolEnds lane stack (waiting (call ∷ rest) answer space fuel) (Err Spent) space
spent_waiting lane stack call rest answer space fuel none =
    ends_here lane stack (waiting (call ∷ rest) answer space fuel) (Err Spent)
    (stops lane stack (waiting (call ∷ rest) answer space fuel) (Err Spent) (NoFuel none (Before call rest refl refl)))

-- no call is left
pub finished : (lane : Lane) (stack answer : ℕ) (space : AddressSpace) (fuel : ℕ) → SymbolEnds lane stack (waiting [] answer space fuel) (Ok answer) space
finished lane stack answer space fuel =
    ends_here lane stack (waiting [] answer space fuel) (Ok answer) (stops lane stack (waiting [] answer space fuel) (Ok answer) (Finished refl refl))

-- what comes of a state comes of one before it
pub comes_after : (lane : Lane) (stack : ℕ) (answer : Result ℕ Ending) (old mid : SymbolState) (new : ℕ → SymbolState) → SymbolRan lane stack old mid
    → Comes lane stack answer mid new → Comes lane stack answer old new
comes_after lane stack (Ok value) old mid new ran comes = ran_more lane stack old mid (new value) ran comes
comes_after lane stack (Err Memory) old mid new ran comes = passes_after lane stack old mid (new 0).space ran comes
comes_after lane stack (Err Spent) old mid new ran comes = ends_after lane stack old mid (Err Spent) (new 0).space ran comes
comes_after lane stack (Err (InitFault pc)) old mid new ran comes = ends_after lane stack old mid (Err (InitFault pc)) (new 0).space ran comes
comes_after lane stack (Err (Returned number)) old mid new ran comes = absurd comes
comes_after lane stack (Err (Exited number)) old mid new ran comes = absurd comes
comes_after lane stack (Err (Unhandled type)) old mid new ran comes = absurd comes
comes_after lane stack (Err (Bad token at)) old mid new ran comes = absurd comes
comes_after lane stack (Err Deep) old mid new ran comes = absurd comes
comes_after lane stack (Err SinkFailed) old mid new ran comes = absurd comes
