-- Laws of what plhost answers, and of the files that it reads.
use Rattle.std.specs.Prelude.{◌≡◌, ◌≢◌, ℕ, false, List, [], ◌∷◌, ◌++◌, Option, Some, None}
use Rattle.bound_base.specs.Outside.{Files}
use Rattle.host_run.specs.declared.command.Command.{Command}
use Rattle.host_run.specs.declared.command.Command.TheVariants.{Imports, Stubs, Native, Run, Drill}
use Rattle.host_run.specs.Grammar.{command}
use Rattle.host_run.specs.Answer.{Answer}
use Rattle.host_run.specs.Commands.{Answers}
use Rattle.host_run.specs.Readings.{Reading, names_of}

-- the status of no failed read, no failed put and no want of memory
pub record IsNoFailure (status : ℕ) : Type 0 where
  pub read : status ≢ 203
  pub put : status ≢ 210
  pub memory : status ≢ 211

-- no answer to words and files has the status of a failure
abbrev pub AnswersAreNoFailures : Type 0
AnswersAreNoFailures =
    (words : List (List ℕ)) (files : Files) (a : Answer) → Answers words files a
    → IsNoFailure a.status

abbrev pub IsNoDrill : Option Command → Type 0
IsNoDrill None = Unit {0}
IsNoDrill (Some (Imports file)) = Unit {0}
IsNoDrill (Some (Stubs file)) = Unit {0}
IsNoDrill (Some (Native lib symbol numbers)) = Unit {0}
IsNoDrill (Some (Run run)) = Unit {0}
IsNoDrill (Some (Drill number)) = ⊥

-- words that ask for no drill have one answer
abbrev pub OtherAnswersAreOne : Type 0
OtherAnswersAreOne =
    (words : List (List ℕ)) (files : Files) (a b : Answer) → IsNoDrill (command words)
    → Answers words files a → Answers words files b → a ≡ b

-- after a file that refuses the call none is read
abbrev pub ReadingEndsAtARefusal : Type 0
ReadingEndsAtARefusal =
    (earlier later : List Reading) (refusing : Reading) (files : Files)
    → refusing.accepts (files refusing.name) ≡ false
    → names_of (earlier ++ refusing ∷ later) files ≡ names_of (earlier ++ refusing ∷ []) files
