-- A run leads another along, also of another machine, where each of its events has one of the other's beside it.
use Rattle.std.proofs.Common.{◌≡◌, ◌∙◌, ℕ, zero, suc, ◌+◌, List, ◌++◌, arith, refl, sym, ap, subst}
use Rattle.runs.specs.Machines.{Next, Goes, Stops, Machine, Run, stays, before, Steps}
use Rattle.runs.specs.Runs.{Ran}
use Rattle.runs.specs.Laws.{TakesFuel, MoreFuelIsTheSame}
use Rattle.runs.proofs.StepsLaws.{steps_none, steps_go, ended_runs_stay}
use Rattle.runs.proofs.Parts.{ran_none, ran_one, ran_more}

-- an event of the other run, with the same output and entries
pub record Beside {S T P L F : Type 0} (m' : Machine T P L F) (R : S → T → Type 0) (new : S) (other : T) (output : List P) (log : List L)
    : Type 0 where
  pub other' : T
  pub goes : m'.step other ≡ Goes other' output log
  pub beside : R new other'

-- each event has one beside it
abbrev pub Along : {S T P L E F : Type 0} → Machine S P L E → Machine T P L F → (S → T → Type 0) → Type 0
Along {S} {T} {P} {L} m m' R =
    (old new : S) (other : T) (output : List P) (log : List L) → R old other → m.step old ≡ Goes new output log
    → Beside m' R new other output log

-- the other run has come to a state beside
pub record Led {S T P L F : Type 0} (m' : Machine T P L F) (R : S → T → Type 0) (new : S) (other : T) (output : List P) (log : List L)
    : Type 0 where
  pub other' : T
  pub ran : Ran m' other other' output log
  pub beside : R new other'

-- a run's state, output and log, of an equation between runs
same_output : {S P L : Type 0} (a b : Run S P L) → a ≡ b → a.output ≡ b.output
same_output {S} {P} {L} a b e = ap (λ (r : Run S P L). r.output) e

led_more : {S T P L F : Type 0} (m' : Machine T P L F) → TakesFuel m' → (R : S → T → Type 0) (mid new : S) (other : T)
    (output output' : List P) (log log' : List L) → Beside m' R mid other output log
    → ((other' : T) → R mid other' → Led m' R new other' output' log') → Led m' R new other (output ++ output') (log ++ log')
led_more m' takes R mid new other output output' log log' one more =
    let rest : Led m' R new one.other' output' log' = more one.other' one.beside in record {
      other' = rest.other';
      ran =
          ran_more m' other one.other' rest.other' output output' log log'
          (ran_one m' other one.other' output log one.goes (takes other one.other' output log one.goes)) rest.ran;
      beside = rest.beside;
    }

-- at the end of the run that leads
led_none : {S T P L F : Type 0} (m' : Machine T P L F) (R : S → T → Type 0) (old : S) (other : T) → R old other → (run : Run S P L) → stays old ≡ run
    → Led m' R run.state other run.output run.log
led_none {S} {T} {P} {L} m' R old other is run e =
    subst (λ (r : Run S P L). Led m' R r.state other r.output r.log) e (record { other' = other; ran = ran_none m' other; beside = is })

led_by : {S T P L E F : Type 0} (m : Machine S P L E) (m' : Machine T P L F) → TakesFuel m → TakesFuel m' → (R : S → T → Type 0) → Along m m' R
    → (n : ℕ) (old : S) (other : T) (next : Next S P L E) → m.step old ≡ next → R old other → (run : Run S P L) → Steps m (suc n) old ≡ run
    → m.fuel old ≡ m.fuel run.state + suc n
    → ((old' : S) (other' : T) → R old' other' → (run' : Run S P L) → Steps m n old' ≡ run' → m.fuel old' ≡ m.fuel run'.state + n → Led m' R run'.state other' run'.output run'.log)
    → Led m' R run.state other run.output run.log
led_by {S} {T} {P} {L} m m' takes takes' R along n old other (Goes old' output log) e is run to fuel more =
    let run' = Steps m n old' in
    let comes : before output log run' ≡ run = sym (steps_go m n old old' output log e) ∙ to in
    let taken : m.fuel old ≡ m.fuel old' + 1 = takes old old' output log e in
    let left : m.fuel run.state ≡ m.fuel run'.state = ap (λ (r : Run S P L). m.fuel r.state) (sym comes) in
    subst (λ (r : Run S P L). Led m' R r.state other r.output r.log) comes
    (led_more m' takes' R old' run'.state other output run'.output log run'.log (along old old' other output log is e)
    (λ other' beside. more old' other' beside run' refl (omega arith)))
led_by {S} {T} {P} {L} m m' takes takes' R along n old other (Stops ending) e is run to fuel more =
    let same : stays old ≡ run = sym (ended_runs_stay m old ending (suc n) e) ∙ to in
    let fuels : m.fuel old ≡ m.fuel run.state = ap (λ (r : Run S P L). m.fuel r.state) same in
    absurd (omega arith)

led_at : {S T P L E F : Type 0} (m : Machine S P L E) (m' : Machine T P L F) → TakesFuel m → TakesFuel m' → (R : S → T → Type 0) → Along m m' R
    → (n : ℕ) (old : S) (other : T) → R old other → (run : Run S P L) → Steps m n old ≡ run → m.fuel old ≡ m.fuel run.state + n
    → Led m' R run.state other run.output run.log
led_at m m' takes takes' R along zero old other is run to fuel = led_none m' R old other is run (sym (steps_none m old) ∙ to)
led_at m m' takes takes' R along (suc n) old other is run to fuel =
    led_by m m' takes takes' R along n old other (m.step old) refl is run to fuel (λ old' other' beside run' to' fuel'. led_at m m' takes takes' R along n old' other' beside run' to' fuel')

pub led : {S T P L E F : Type 0} (m : Machine S P L E) (m' : Machine T P L F) → TakesFuel m → TakesFuel m' → (R : S → T → Type 0) → Along m m' R
    → (old new : S) (other : T) (output : List P) (log : List L) → R old other → Ran m old new output log → Led m' R new other output log
led m m' takes takes' R along old new other output log is ran =
    led_at m m' takes takes' R along ran.n old other is (record { state = new; output = output; log = log }) ran.steps ran.fuel

-- a state with more fuel beside each
pub more_fuel_is_the_same : {S P L E : Type 0} (m : Machine S P L E) → TakesFuel m → MoreFuelIsTheSame m
more_fuel_is_the_same {S} {P} {L} {E} m takes spent more refuels old last output log ending other ends =
    let R : S → S → Type 0 = λ state fuelled. fuelled ≡ more state in
    let it : Led m R last (more old) output log =
    led m m takes takes R (λ from new with_more out entries is goes. record {
      other' = more new;
      goes = ap m.step is ∙ refuels.goes from new out entries goes;
      beside = refl;
    }) old last (more old) output log refl ends.ran in record {
      ran = subst (λ (to : S). Ran m (more old) to output log) it.beside it.ran;
      stops = refuels.stops last ending other ends.stops;
    }
