-- So many events, and so many more.
use Rattle.std.proofs.Common.{◌≡◌, ◌∙◌, ℕ, zero, suc, ◌+◌, List, [], ◌++◌, append_assoc, refl, sym, ap}
use Rattle.std.proofs.Math.Nat.{suc-add, zero-add}
use Rattle.runs.specs.Machines.{Next, Goes, Stops, Machine, Run, stays, before, after, Steps}
use Rattle.runs.specs.Laws.{StepsAdd, EndedRunsStay}

pub steps_none : {S P L E : Type 0} (m : Machine S P L E) (state : S) → Steps m zero state ≡ stays state
unfolding Steps
steps_none m state = refl

-- by what comes of a state
pub steps_go : {S P L E : Type 0} (m : Machine S P L E) (n : ℕ) (state next : S) (output : List P) (log : List L)
    → m.step state ≡ Goes next output log → Steps m (suc n) state ≡ before output log (Steps m n next)
unfolding Steps
steps_go m n state next output log e = ap (after state (Steps m n)) e

pub ended_runs_stay : {S P L E : Type 0} (m : Machine S P L E) → EndedRunsStay m
unfolding Steps
ended_runs_stay m state ending zero e = refl
ended_runs_stay m state ending (suc n) e = ap (after state (Steps m n)) e

-- the rest of a run
abbrev pub onward : {S P L E : Type 0} → Machine S P L E → ℕ → Run S P L → Run S P L
onward m more run = before run.output run.log (Steps m more run.state)

before_before : {S P L : Type 0} (output output' : List P) (log log' : List L) (run : Run S P L)
    → before output log (before output' log' run) ≡ before (output ++ output') (log ++ log') run
before_before {S} {P} {L} output output' log log' run =
    ap (λ (out : List P). let r : Run S P L = record { state = run.state; output = out; log = log ++ (log' ++ run.log) } in r)
    (sym (append_assoc output output' run.output))
    ∙ ap (λ (entries : List L). let r : Run S P L = record { state = run.state; output = (output ++ output') ++ run.output; log = entries } in r)
    (sym (append_assoc log log' run.log))

steps_add_by : {S P L E : Type 0} (m : Machine S P L E) (first more : ℕ) (state : S) (next : Next S P L E) → m.step state ≡ next
    → ((state' : S) → Steps m (first + more) state' ≡ onward m more (Steps m first state'))
    → Steps m (suc first + more) state ≡ onward m more (Steps m (suc first) state)
steps_add_by m first more state (Goes state' output log) e again =
    let run = Steps m first state' in
    rw suc-add
    (steps_go m (first + more) state state' output log e
    ∙ ap (before output log) (again state')
    ∙ before_before output run.output log run.log (Steps m more run.state)
    ∙ ap (onward m more) (sym (steps_go m first state state' output log e)))
steps_add_by m first more state (Stops ending) e again =
    ended_runs_stay m state ending (suc first + more) e
    ∙ ap (before [] []) (sym (ended_runs_stay m state ending more e))
    ∙ ap (onward m more) (sym (ended_runs_stay m state ending (suc first) e))

pub steps_add : {S P L E : Type 0} (m : Machine S P L E) → StepsAdd m
steps_add m zero more state = rw zero-add (ap (onward m more) (sym (steps_none m state)))
steps_add m (suc first) more state = steps_add_by m first more state (m.step state) refl (steps_add m first more)
