-- Parts of a run, one after another.
use Rattle.std.proofs.Common.{◌≡◌, ◌∙◌, ℕ, ◌+◌, List, [], ◌++◌, append-nil, append_assoc, arith, sym, ap}
use Rattle.runs.specs.Machines.{Goes, Stops, Machine, Run, stays, before, Steps}
use Rattle.runs.specs.Runs.{Ran, Ends, Begins}
use Rattle.runs.specs.Laws.{PartsJoin, EndsJoin, FrontsJoin, FuelLeadsToEnds}
use Rattle.runs.proofs.StepsLaws.{onward, steps_none, steps_go, steps_add, ended_runs_stay}

-- no event
pub ran_none : {S P L E : Type 0} (m : Machine S P L E) (state : S) → Ran m state state [] []
ran_none m state = record { n = 0; fuel = omega arith; steps = steps_none m state }

-- a run with what came before it, and nothing after
before_none : {S P L : Type 0} (output : List P) (log : List L) (state : S)
    → before output log (stays state) ≡ record { state = state; output = output; log = log }
before_none {S} {P} {L} output log state =
    ap (λ (out : List P). let r : Run S P L = record { state = state; output = out; log = log ++ [] } in r) (append-nil output)
    ∙ ap (λ (entries : List L). let r : Run S P L = record { state = state; output = output; log = entries } in r) (append-nil log)

-- one event
pub ran_one : {S P L E : Type 0} (m : Machine S P L E) (old new : S) (output : List P) (log : List L)
    → m.step old ≡ Goes new output log → m.fuel old ≡ m.fuel new + 1 → Ran m old new output log
ran_one m old new output log goes fuel = record {
  n = 1;
  fuel = fuel;
  steps = steps_go m 0 old new output log goes ∙ ap (before output log) (steps_none m new) ∙ before_none output log new;
}

-- some events, and some more
pub ran_more : {S P L E : Type 0} (m : Machine S P L E) → PartsJoin m
ran_more m old mid new output output' log log' a b = record {
  n = a.n + b.n;
  fuel = omega arith;
  steps = steps_add m a.n b.n old ∙ ap (onward m b.n) a.steps ∙ ap (before output log) b.steps;
}

-- a run that ends
pub ends_here : {S P L E : Type 0} (m : Machine S P L E) (state : S) (ending : E) → m.step state ≡ Stops ending
    → Ends m state state [] [] ending
ends_here m state ending stops = record { ran = ran_none m state; stops = stops }

pub ends_after : {S P L E : Type 0} (m : Machine S P L E) → EndsJoin m
ends_after m old mid last output output' log log' ending a b =
    record { ran = ran_more m old mid last output output' log log' a b.ran; stops = b.stops }

-- a front of what is put and entered
pub begins_after : {S P L E : Type 0} (m : Machine S P L E) → FrontsJoin m
begins_after {S} {P} {L} m old mid output output' log log' a b =
    let run : Steps m (a.n + b.n) old ≡ before output log (Steps m b.n mid) =
    steps_add m a.n b.n old ∙ ap (onward m b.n) a.steps in record {
      n = a.n + b.n;
      output_rest = b.output_rest;
      log_rest = b.log_rest;
      put = ap (λ (r : Run S P L). r.output) run ∙ ap (λ (out : List P). output ++ out) b.put ∙ sym (append_assoc output output' b.output_rest);
      entered = ap (λ (r : Run S P L). r.log) run ∙ ap (λ (entries : List L). log ++ entries) b.entered ∙ sym (append_assoc log log' b.log_rest);
    }

-- all that was put and entered is a front of it
pub begins_all : {S P L E : Type 0} (m : Machine S P L E) (old new : S) (output : List P) (log : List L) → Ran m old new output log → Begins m old output log
begins_all {S} {P} {L} m old new output log ran = record {
  n = ran.n;
  output_rest = [];
  log_rest = [];
  put = ap (λ (r : Run S P L). r.output) ran.steps ∙ sym (append-nil output);
  entered = ap (λ (r : Run S P L). r.log) ran.steps ∙ sym (append-nil log);
}

-- as many events as there is fuel lead to the end
pub fuel_leads_to_ends : {S P L E : Type 0} (m : Machine S P L E) → FuelLeadsToEnds m
fuel_leads_to_ends {S} {P} {L} m old last output log ending ends =
    let fuel : m.fuel old ≡ ends.ran.n + m.fuel last = omega (arith, ends.ran.fuel) in
    ap (λ (n : ℕ). Steps m n old) fuel
    ∙ steps_add m ends.ran.n (m.fuel last) old
    ∙ ap (onward m (m.fuel last)) ends.ran.steps
    ∙ ap (before output log) (ended_runs_stay m last ending (m.fuel last) ends.stops)
    ∙ before_none output log last
