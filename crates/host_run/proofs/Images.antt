-- A command on an assembly that was read.
use Rattle.std.proofs.Common.{◌≡◌, refl, sym, ap, List, ℕ, Option, Some, None, Result, Ok, Err, subst}
use Rattle.byte_view.specs.Reading.{Broken, RefusedBy}
use Rattle.type_model.specs.Module.{Module}
use Rattle.host_run.specs.declared.settled.Settled.{Settled}
use Rattle.host_run.specs.declared.settled.Halt.{Halt}
use Rattle.host_run.specs.Settled.{SettlesBroken}
use Rattle.host_run.specs.Answer.{Answer, bad_image}
use Rattle.host_run.specs.Called.{SinkChange, Finishes}
use Rattle.host_run.proofs.Outcomes.{finishes-settled, finishes-memory}

-- what finishes one answer finishes another that is the same
pub finishes-same : (a b : Answer) (result : Result Settled Halt) (out : SinkChange) → b ≡ a → Finishes a result out → Finishes b result out
finishes-same a b result out e h = let P : Answer → Type 0 = λ x. Finishes x result out in subst P (sym e) h

-- an answer to an assembly that refuses a broken one
abbrev pub RefusesBroken : (Result Module Broken → Answer) → Type 0
RefusesBroken answer_of = (broken : Broken) → answer_of (Err broken) ≡ bad_image broken.0 broken.1

-- a broken image is refused
pub finishes-broken : (answer_of : Result Module Broken → Answer) → RefusesBroken answer_of
    → (says : Option Broken) (read : Result Module Broken) (result : Result Settled Halt) (out : SinkChange)
    → RefusedBy says read → SettlesBroken bad_image says result → out.new ≡ out.old → out.after ≡ out.before
    → Finishes (answer_of read) result out
finishes-broken answer_of alike (Some broken) read result out refuses settles new count =
    finishes-same (bad_image broken.0 broken.1) (answer_of read) result out (rw refuses (alike broken)) (finishes-settled (bad_image broken.0 broken.1) result out refl settles new count)
finishes-broken answer_of alike None read result out refuses settles new count = finishes-memory (answer_of read) result out settles new count
