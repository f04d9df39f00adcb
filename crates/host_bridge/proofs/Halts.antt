-- Where a run stops, and why.
use Rattle.std.proofs.Common.{◌≡◌, ◌≢◌, ◌∙◌, ℕ, ◌-◌, ◌<◌, Bool, true, false, cond, List, [], ◌∷◌, Option, Some, None, Result, Ok, Err, nat_eq, arith, refl, sym, ap, subst}
use Rattle.std.proofs.lemmas.Bool.{eqb-true, eqb-false, ne_eqb, cond-false}
use Rattle.bound_base.specs.declared.ending.Ending.{Ending}
use Rattle.bound_base.specs.declared.ending.Ending.TheVariants.{Spent, InitFault}
use Rattle.bound_base.specs.declared.limits.Lane.{Lane}
use Rattle.rv_machine.specs.declared.registers.Regs.{Regs}
use Rattle.native_code.specs.Places.{return_place}
use Rattle.native_code.specs.Events.{NativeNext, Continues, Arrives, Faults, native_next}
use Rattle.runs.specs.Machines.{Stops}
use Rattle.host_bridge.specs.SymbolRun.{Call, SymbolState, SymbolNext, goes, begun, call_ended, arrived, turned, fueled, chosen, symbol_step}
use Rattle.host_bridge.proofs.Events.{chosen_at, fuel_left, goes_not_stops}

-- an event is due: a call goes on, or hasn't begun
pub data Pending (run : SymbolState) : Type 0 where
  InCall : (regs : Regs) → run.native ≡ Some regs → Pending run
  Before : (call : Call) (rest : List Call) → run.native ≡ None → run.calls ≡ call ∷ rest → Pending run

-- native code faults, or has come to a place that no call returns to
pub data Strays : NativeNext → ℕ → Type 0 where
  Faulted : (pc : ℕ) → Strays (Faults pc) pc
  Lost : (place : ℕ) → place ≢ return_place → Strays (Arrives place) place

pub data Halts (lane : Lane) (stack : ℕ) (run : SymbolState) : Result ℕ Ending → Type 0 where
  Finished : run.native ≡ None → run.calls ≡ [] → Halts lane stack run (Ok run.answer)
  NoFuel : run.fuel ≡ 0 → Pending run → Halts lane stack run (Err Spent)
  Strayed : (regs : Regs) (pc : ℕ) → 0 < run.fuel → run.native ≡ Some regs → Strays (native_next lane.errno regs run.space) pc
      → Halts lane stack run (Err (InitFault pc))

same_answer : (answer answer' : Result ℕ Ending) → ◌≡◌ {A = SymbolNext} (Stops answer) (Stops answer') → answer ≡ answer'
same_answer answer answer' e = cc

strayed : (lane : Lane) (stack : ℕ) (run : SymbolState) (answer : Result ℕ Ending) (regs : Regs) (next : NativeNext) (pc : ℕ) → 0 < run.fuel → run.native ≡ Some regs
    → native_next lane.errno regs run.space ≡ next → Strays next pc → ◌≡◌ {A = SymbolNext} (Stops (Err (InitFault pc))) (Stops answer) → Halts lane stack run answer
strayed lane stack run answer regs next pc left native is strays e =
    subst (λ (a : Result ℕ Ending). Halts lane stack run a) (same_answer (Err (InitFault pc)) answer e)
    (Strayed regs pc left native (subst (λ (n : NativeNext). Strays n pc) (sym is) strays))

arrived_halts : (lane : Lane) (stack : ℕ) (run : SymbolState) (answer : Result ℕ Ending) (regs : Regs) (place : ℕ) (returns : Bool) → nat_eq place return_place ≡ returns
    → 0 < run.fuel → run.native ≡ Some regs → native_next lane.errno regs run.space ≡ Arrives place
    → cond returns (goes (call_ended run regs)) (Stops (Err (InitFault place))) ≡ Stops answer → Halts lane stack run answer
arrived_halts lane stack run answer regs place true here left native is e = absurd (goes_not_stops (call_ended run regs) answer e)
arrived_halts lane stack run answer regs place false here left native is e =
    strayed lane stack run answer regs (Arrives place) place left native is (Lost place (eqb-false place return_place here)) e

turned_halts : (lane : Lane) (stack : ℕ) (run : SymbolState) (answer : Result ℕ Ending) (regs : Regs) (next : NativeNext) → 0 < run.fuel → run.native ≡ Some regs
    → native_next lane.errno regs run.space ≡ next → turned run regs next ≡ Stops answer → Halts lane stack run answer
turned_halts lane stack run answer regs (Continues regs' space) left native is e =
    absurd (goes_not_stops (record run { native = Some regs'; space = space; fuel = run.fuel - 1 }) answer e)
turned_halts lane stack run answer regs (Arrives place) left native is e =
    arrived_halts lane stack run answer regs place (nat_eq place return_place) refl left native is e
turned_halts lane stack run answer regs (Faults pc) left native is e = strayed lane stack run answer regs (Faults pc) pc left native is (Faulted pc) e

-- by whether fuel is left
asked : (none : Bool) (lane : Lane) (stack : ℕ) (run : SymbolState) (answer : Result ℕ Ending) (next : SymbolNext) → nat_eq run.fuel 0 ≡ none → Pending run
    → cond none (Stops (Err Spent)) next ≡ Stops answer → (0 < run.fuel → next ≡ Stops answer → Halts lane stack run answer) → Halts lane stack run answer
asked true lane stack run answer next is pending e more =
    subst (λ (a : Result ℕ Ending). Halts lane stack run a) (same_answer (Err Spent) answer e) (NoFuel (eqb-true run.fuel 0 is) pending)
asked false lane stack run answer next is pending e more =
    more (let some : run.fuel ≡ 0 → ⊥ = eqb-false run.fuel 0 is in omega arith) e

chosen_halts : (lane : Lane) (stack : ℕ) (run : SymbolState) (answer : Result ℕ Ending) (native : Option Regs) (calls : List Call) → run.native ≡ native → run.calls ≡ calls
    → chosen lane stack run native calls ≡ Stops answer → Halts lane stack run answer
chosen_halts lane stack run answer (Some regs) calls is waits e =
    let next : NativeNext = native_next lane.errno regs run.space in
    asked (nat_eq run.fuel 0) lane stack run answer (turned run regs next) refl (InCall regs is) e (λ left f. turned_halts lane stack run answer regs next left is refl f)
chosen_halts lane stack run answer None (call ∷ rest) is waits e =
    asked (nat_eq run.fuel 0) lane stack run answer (goes (begun lane stack run call rest)) refl (Before call rest is waits) e
    (λ left f. absurd (goes_not_stops (begun lane stack run call rest) answer f))
chosen_halts lane stack run answer None [] is waits e =
    subst (λ (a : Result ℕ Ending). Halts lane stack run a) (same_answer (Ok run.answer) answer e) (Finished is waits)

pub halts : (lane : Lane) (stack : ℕ) (run : SymbolState) (answer : Result ℕ Ending) → symbol_step lane stack run ≡ Stops answer → Halts lane stack run answer
unfolding symbol_step
halts lane stack run answer e = chosen_halts lane stack run answer run.native run.calls refl refl e

no_fuel : (run : SymbolState) (next : SymbolNext) → run.fuel ≡ 0 → fueled run.fuel next ≡ Stops (Err Spent)
no_fuel run next none = ap (λ (fuel : ℕ). fueled fuel next) none

pending_stops : (lane : Lane) (stack : ℕ) (run : SymbolState) → run.fuel ≡ 0 → Pending run → symbol_step lane stack run ≡ Stops (Err Spent)
pending_stops lane stack run none (InCall regs is) = chosen_at lane stack run (Some regs) run.calls is refl ∙ no_fuel run _ none
pending_stops lane stack run none (Before call rest is waits) = chosen_at lane stack run None (call ∷ rest) is waits ∙ no_fuel run _ none

-- another place than the return place is a fault
lost : (run : SymbolState) (regs : Regs) (place : ℕ) → place ≢ return_place → arrived run regs place ≡ Stops (Err (InitFault place))
lost run regs place other = cond-false (nat_eq place return_place) _ _ (ne_eqb place return_place other)

strays_stop : (run : SymbolState) (regs : Regs) (next : NativeNext) (pc : ℕ) → Strays next pc → turned run regs next ≡ Stops (Err (InitFault pc))
strays_stop run regs next pc (Faulted pc') = refl
strays_stop run regs next pc (Lost place other) = lost run regs place other

pub stops : (lane : Lane) (stack : ℕ) (run : SymbolState) (answer : Result ℕ Ending) → Halts lane stack run answer → symbol_step lane stack run ≡ Stops answer
stops lane stack run answer (Finished native calls) = chosen_at lane stack run None [] native calls
stops lane stack run answer (NoFuel none pending) = pending_stops lane stack run none pending
stops lane stack run answer (Strayed regs pc left native strays) =
    chosen_at lane stack run (Some regs) run.calls native refl ∙ fuel_left run.fuel _ left ∙ strays_stop run regs _ pc strays
