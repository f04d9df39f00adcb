-- The three kinds of event with which a run goes on, and what each changes.
use Rattle.std.proofs.Common.{◌≡◌, ◌∙◌, ℕ, ◌-◌, ◌<◌, Bool, true, false, cond, List, [], ◌∷◌, Option, Some, None, Result, Ok, Err, nat_eq, arith, refl, ap, subst}
use Rattle.std.proofs.lemmas.Bool.{eqb-true, eqb-false}
use Rattle.bound_base.specs.declared.ending.Ending.{Ending}
use Rattle.bound_base.specs.declared.ending.Ending.TheVariants.{Spent, InitFault}
use Rattle.bound_base.specs.declared.limits.Lane.{Lane}
use Rattle.native_memory.specs.AddressSpace.{AddressSpace}
use Rattle.rv_machine.specs.declared.registers.Regs.{Regs}
use Rattle.native_code.specs.Places.{return_place}
use Rattle.native_code.specs.Events.{NativeNext, Continues, Arrives, Faults, native_next}
use Rattle.runs.specs.Machines.{Goes, Stops}
use Rattle.runs.specs.Laws.{TakesFuel}
use Rattle.host_bridge.specs.SymbolRun.{Call, SymbolState, SymbolNext, goes, begun, call_ended, arrived, turned, fueled, chosen, symbol_step, symbol_machine}

-- a call begins, native code goes on, or its call ends
pub data Event (lane : Lane) (stack : ℕ) (run : SymbolState) : SymbolState → Type 0 where
  Begins : (call : Call) (rest : List Call) → run.native ≡ None → run.calls ≡ call ∷ rest → Event lane stack run (begun lane stack run call rest)
  GoesOn : (regs regs' : Regs) (space : AddressSpace) → run.native ≡ Some regs → native_next lane.errno regs run.space ≡ Continues regs' space
      → Event lane stack run (record run { native = Some regs'; space = space; fuel = run.fuel - 1 })
  Ends : (regs : Regs) → run.native ≡ Some regs → native_next lane.errno regs run.space ≡ Arrives return_place
      → Event lane stack run (call_ended run regs)

-- where fuel is left
pub record Moves (lane : Lane) (stack : ℕ) (run new : SymbolState) : Type 0 where
  pub left : 0 < run.fuel
  pub event : Event lane stack run new

-- states are told from `goes`
pub same_state : (a b : SymbolState) (output log : List ⊥) → goes a ≡ Goes b output log → a ≡ b
same_state a b output log e = cc

pub goes_not_stops : (a : SymbolState) (answer : Result ℕ Ending) → goes a ≡ Stops answer → ⊥
goes_not_stops a answer e = cc

pub stops_not_goes : (answer : Result ℕ Ending) (b : SymbolState) (output log : List ⊥) → Stops answer ≡ Goes b output log → ⊥
stops_not_goes answer b output log e = cc

fuel_asked : (none : Bool) (fuel : ℕ) (next : SymbolNext) (new : SymbolState) (output log : List ⊥) → nat_eq fuel 0 ≡ none
    → cond none (Stops (Err Spent)) next ≡ Goes new output log → (0 < fuel) × (next ≡ Goes new output log)
fuel_asked true fuel next new output log is e = absurd (stops_not_goes (Err Spent) new output log e)
fuel_asked false fuel next new output log is e = (let some : fuel ≡ 0 → ⊥ = eqb-false fuel 0 is in omega arith, e)

pub fuel_left : (fuel : ℕ) (next : SymbolNext) → 0 < fuel → fueled fuel next ≡ next
fuel_left fuel next left = grind arith

arrived_moves : (lane : Lane) (stack : ℕ) (run new : SymbolState) (output log : List ⊥) (regs : Regs) (place : ℕ) (returns : Bool) → nat_eq place return_place ≡ returns
    → run.native ≡ Some regs → native_next lane.errno regs run.space ≡ Arrives place
    → cond returns (goes (call_ended run regs)) (Stops (Err (InitFault place))) ≡ Goes new output log → Event lane stack run new
arrived_moves lane stack run new output log regs place true here native is e =
    subst (λ (to : SymbolState). Event lane stack run to) (same_state (call_ended run regs) new output log e)
    (Ends regs native (is ∙ ap (λ p. Arrives p) (eqb-true place return_place here)))
arrived_moves lane stack run new output log regs place false here native is e = absurd (stops_not_goes (Err (InitFault place)) new output log e)

turned_moves : (lane : Lane) (stack : ℕ) (run new : SymbolState) (output log : List ⊥) (regs : Regs) (next : NativeNext) → run.native ≡ Some regs
    → native_next lane.errno regs run.space ≡ next → turned run regs next ≡ Goes new output log → Event lane stack run new
turned_moves lane stack run new output log regs (Continues regs' space) native is e =
    subst (λ (to : SymbolState). Event lane stack run to)
    (same_state (record run { native = Some regs'; space = space; fuel = run.fuel - 1 }) new output log e) (GoesOn regs regs' space native is)
turned_moves lane stack run new output log regs (Arrives place) native is e =
    arrived_moves lane stack run new output log regs place (nat_eq place return_place) refl native is e
turned_moves lane stack run new output log regs (Faults pc) native is e = absurd (stops_not_goes (Err (InitFault pc)) new output log e)

chosen_moves : (lane : Lane) (stack : ℕ) (run new : SymbolState) (output log : List ⊥) (native : Option Regs) (calls : List Call) → run.native ≡ native → run.calls ≡ calls
    → chosen lane stack run native calls ≡ Goes new output log → Moves lane stack run new
chosen_moves lane stack run new output log (Some regs) calls is waits e =
    let next : NativeNext = native_next lane.errno regs run.space in
    let asked = fuel_asked (nat_eq run.fuel 0) run.fuel (turned run regs next) new output log refl e in
    record { left = asked.0; event = turned_moves lane stack run new output log regs next is refl asked.1 }
chosen_moves lane stack run new output log None (call ∷ rest) is waits e =
    let asked = fuel_asked (nat_eq run.fuel 0) run.fuel (goes (begun lane stack run call rest)) new output log refl e in
    record {
      left = asked.0;
      event =
          subst (λ (to : SymbolState). Event lane stack run to) (same_state (begun lane stack run call rest) new output log asked.1)
          (Begins call rest is waits);
    }
chosen_moves lane stack run new output log None [] is waits e = absurd (stops_not_goes (Ok run.answer) new output log e)

-- a step that goes on is an event
pub moves : (lane : Lane) (stack : ℕ) (run new : SymbolState) (output log : List ⊥) → symbol_step lane stack run ≡ Goes new output log → Moves lane stack run new
unfolding symbol_step
moves lane stack run new output log e = chosen_moves lane stack run new output log run.native run.calls refl refl e

pub chosen_at : (lane : Lane) (stack : ℕ) (run : SymbolState) (native : Option Regs) (calls : List Call) → run.native ≡ native → run.calls ≡ calls
    → symbol_step lane stack run ≡ chosen lane stack run native calls
unfolding symbol_step
chosen_at lane stack run native calls is waits =
    ap (λ (n : Option Regs). chosen lane stack run n run.calls) is ∙ ap (chosen lane stack run native) waits

-- the return place ends a call
pub returned_goes : (run : SymbolState) (regs : Regs) → arrived run regs return_place ≡ goes (call_ended run regs)
returned_goes run regs = refl

-- and an event, where fuel is left, such a step
pub goes_by : (lane : Lane) (stack : ℕ) (run new : SymbolState) → 0 < run.fuel → Event lane stack run new → symbol_step lane stack run ≡ goes new
goes_by lane stack run new left (Begins call rest native calls) = chosen_at lane stack run None (call ∷ rest) native calls ∙ fuel_left run.fuel _ left
goes_by lane stack run new left (GoesOn regs regs' space native next) =
    chosen_at lane stack run (Some regs) run.calls native refl ∙ fuel_left run.fuel _ left ∙ ap (turned run regs) next
goes_by lane stack run new left (Ends regs native next) =
    chosen_at lane stack run (Some regs) run.calls native refl ∙ fuel_left run.fuel _ left ∙ ap (turned run regs) next

event_fuel : (lane : Lane) (stack : ℕ) (run new : SymbolState) → Event lane stack run new → new.fuel ≡ run.fuel - 1
event_fuel lane stack run new (Begins call rest native calls) = refl
event_fuel lane stack run new (GoesOn regs regs' space native next) = refl
event_fuel lane stack run new (Ends regs native next) = refl

pub takes_fuel : (lane : Lane) (stack : ℕ) → TakesFuel (symbol_machine lane stack)
takes_fuel lane stack run new output log e =
    let it = moves lane stack run new output log e in
    let left : 0 < run.fuel = it.left in
    let spent : new.fuel ≡ run.fuel - 1 = event_fuel lane stack run new it.event in
    omega arith

-- there is neither output nor log
pub no_pieces : (pieces : List ⊥) → pieces ≡ []
no_pieces [] = refl
no_pieces (piece ∷ pieces) = absurd piece
