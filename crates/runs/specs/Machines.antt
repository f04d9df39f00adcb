-- Machines, and what comes of a state in some events.
use Rattle.std.specs.Prelude.{ℕ, zero, suc, List, [], ◌++◌}

-- What comes of a state in one event: the next one, with pieces of output and entries of a log; or
-- the run ends.
pub data Next (S P L E : Type 0) : Type 0 where
  Goes : S → List P → List L → Next S P L E
  Stops : E → Next S P L E

-- what comes of each state, and how many events may still come
pub record Machine (S P L E : Type 0) : Type 0 where
  pub step : S → Next S P L E
  pub fuel : S → ℕ

-- a state, and all that was put and entered on the way to it
pub record Run (S P L : Type 0) : Type 0 where
  pub state : S
  pub output : List P
  pub log : List L

-- no event
abbrev pub stays : {S P L : Type 0} → S → Run S P L
stays state = record { state = state; output = []; log = [] }

-- a run with what came before it
abbrev pub before : {S P L : Type 0} → List P → List L → Run S P L → Run S P L
before output log run =
    record { state = run.state; output = output ++ run.output; log = log ++ run.log }

-- an event, and then some more; a run that is over stays as it is
abbrev pub after : {S P L E : Type 0} → S → (S → Run S P L) → Next S P L E → Run S P L
after state more (Goes next output log) = before output log (more next)
after state more (Stops _) = stays state

-- so many events
unfoldable pub Steps : {S P L E : Type 0} → Machine S P L E → ℕ → S → Run S P L
Steps m zero state = stays state
Steps m (suc n) state = after state (Steps m n) (m.step state)
