-- Parts of a run.
use Rattle.std.specs.Prelude.{◌≡◌, ℕ, ◌+◌, List, ◌++◌}
use Rattle.runs.specs.Machines.{Machine, Stops, Steps}

-- some events lead from one state to another, with this output and these entries; each takes one
-- unit of fuel
pub record Ran {S P L E : Type 0} (m : Machine S P L E)
    (old new : S) (output : List P) (log : List L) : Type 0 where
  pub n : ℕ
  pub fuel : m.fuel old ≡ m.fuel new + n
  pub steps : Steps m n old ≡ record { state = new; output = output; log = log }

-- some events lead from a state to a last one, at which the run ends so
pub record Ends {S P L E : Type 0} (m : Machine S P L E)
    (old last : S) (output : List P) (log : List L) (ending : E) : Type 0 where
  pub ran : Ran m old last output log
  pub stops : m.step last ≡ Stops ending

-- what is put in some events begins with this, and what is entered in them with that
pub record Begins {S P L E : Type 0} (m : Machine S P L E)
    (old : S) (output : List P) (log : List L) : Type 0 where
  pub n : ℕ
  pub output_rest : List P
  pub log_rest : List L
  pub put : (Steps m n old).output ≡ output ++ output_rest
  pub entered : (Steps m n old).log ≡ log ++ log_rest
