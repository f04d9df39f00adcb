-- Laws of runs.
use Rattle.std.specs.Prelude.{◌≡◌, ◌≢◌, ℕ, ◌+◌, List, ◌++◌}
use Rattle.runs.specs.Machines.{Machine, Goes, Stops, stays, before, Steps}
use Rattle.runs.specs.Runs.{Ran, Ends, Begins}

-- each event takes one unit of fuel
abbrev pub TakesFuel : {S P L E : Type 0} → Machine S P L E → Type 0
TakesFuel {S} {P} {L} {E} m =
    (old new : S) (output : List P) (log : List L)
    → m.step old ≡ Goes new output log → m.fuel old ≡ m.fuel new + 1

-- so many events, and so many more: what these put and enter comes after what the first ones did
abbrev pub StepsAdd : {S P L E : Type 0} → Machine S P L E → Type 0
StepsAdd {S} m =
    (first more : ℕ) (state : S)
    → Steps m (first + more) state
    ≡ before (Steps m first state).output (Steps m first state).log
    (Steps m more (Steps m first state).state)

-- the same of parts of a run, and of its end
abbrev pub PartsJoin : {S P L E : Type 0} → Machine S P L E → Type 0
PartsJoin {S} {P} {L} {E} m =
    (old mid new : S) (output output' : List P) (log log' : List L)
    → Ran m old mid output log → Ran m mid new output' log'
    → Ran m old new (output ++ output') (log ++ log')

abbrev pub EndsJoin : {S P L E : Type 0} → Machine S P L E → Type 0
EndsJoin {S} {P} {L} {E} m =
    (old mid last : S) (output output' : List P) (log log' : List L) (ending : E)
    → Ran m old mid output log → Ends m mid last output' log' ending
    → Ends m old last (output ++ output') (log ++ log') ending

abbrev pub FrontsJoin : {S P L E : Type 0} → Machine S P L E → Type 0
FrontsJoin {S} {P} {L} {E} m =
    (old mid : S) (output output' : List P) (log log' : List L)
    → Ran m old mid output log → Begins m mid output' log'
    → Begins m old (output ++ output') (log ++ log')

-- where a run has ended, nothing changes any more
abbrev pub EndedRunsStay : {S P L E : Type 0} → Machine S P L E → Type 0
EndedRunsStay {S} {P} {L} {E} m =
    (state : S) (ending : E) (n : ℕ) → m.step state ≡ Stops ending → Steps m n state ≡ stays state

-- an end of a run is what as many events as it has fuel come to
abbrev pub FuelLeadsToEnds : {S P L E : Type 0} → Machine S P L E → Type 0
FuelLeadsToEnds {S} {P} {L} {E} m =
    (old last : S) (output : List P) (log : List L) (ending : E) → Ends m old last output log ending
    → Steps m (m.fuel old) old ≡ record { state = last; output = output; log = log }

-- and each run has one
pub record EndOf {S P L E : Type 0} (m : Machine S P L E) (old : S) : Type 0 where
  pub last : S
  pub output : List P
  pub log : List L
  pub ending : E
  pub ends : Ends m old last output log ending

abbrev pub RunsEnd : {S P L E : Type 0} → Machine S P L E → Type 0
RunsEnd {S} m = (state : S) → EndOf m state

-- a state with more fuel does the same, unless it ends for want of fuel
pub record Refuels {S P L E : Type 0} (m : Machine S P L E) (spent : E) (more : S → S)
    : Type 0 where
  pub goes : (old new : S) (output : List P) (log : List L)
      → m.step old ≡ Goes new output log → m.step (more old) ≡ Goes (more new) output log
  pub stops : (last : S) (ending : E) → ending ≢ spent
      → m.step last ≡ Stops ending → m.step (more last) ≡ Stops ending

-- and then a run that its fuel doesn't end is the same with more fuel
abbrev pub MoreFuelIsTheSame : {S P L E : Type 0} → Machine S P L E → Type 0
MoreFuelIsTheSame {S} {P} {L} {E} m =
    (spent : E) (more : S → S) → Refuels m spent more
    → (old last : S) (output : List P) (log : List L) (ending : E) → ending ≢ spent
    → Ends m old last output log ending → Ends m (more old) (more last) output log ending
