-- What a call of native code came to.
use Rattle.std.proofs.Common.{◌≡◌, refl, ap, ℕ, Result, Err}
use Rattle.bound_base.specs.declared.ending.Ending.{Ending}
use Rattle.bound_base.specs.declared.ending.Ending.TheVariants.{Returned, Exited, Unhandled, Spent, Bad, Deep, SinkFailed, InitFault, Memory}
use Rattle.bound_base.specs.declared.limits.Lane.{Lane}
use Rattle.native_memory.specs.AddressSpace.{AddressSpace}
use Rattle.host_bridge.specs.SymbolRun.{SymbolState, Outcome, outcome}
use Rattle.host_bridge.specs.SymbolParts.{EndsBy}
use Rattle.host_run.specs.declared.settled.Settled.{Settled}
use Rattle.host_run.specs.declared.settled.Halt.{Halt}
use Rattle.host_run.specs.Answer.{ended}
use Rattle.host_run.specs.Native.{run_answer}
use Rattle.host_run.specs.Settled.{IsNativeEnding, SettlesEnding}
use Rattle.host_run.specs.Called.{SinkChange, Finishes}
use Rattle.host_run.proofs.Outcomes.{finishes-settled, finishes-memory}
use Rattle.host_run.proofs.Images.{finishes-same}

module _ (lane : Lane) (stack : ℕ) (run : SymbolState) (space : AddressSpace) where
  pub native-ending : (ending : Ending) → EndsBy ending lane stack run space → IsNativeEnding ending
  native-ending (Returned number) e = absurd e
  native-ending (Exited number) e = absurd e
  native-ending (Unhandled type) e = absurd e
  native-ending Spent e = tt
  native-ending (Bad token at) e = absurd e
  native-ending Deep e = absurd e
  native-ending SinkFailed e = absurd e
  native-ending (InitFault pc) e = tt
  native-ending Memory e = tt

  as_ended : (ending : Ending) (result : Result Settled Halt) (out : SinkChange) → outcome lane stack run ≡ record { answer = Err ending; space = space } → Finishes (ended ending) result out
      → Finishes (run_answer (outcome lane stack run).answer) result out
  as_ended ending result out e h =
      finishes-same (ended ending) (run_answer (outcome lane stack run).answer) result out (ap (λ (o : Outcome). run_answer o.answer) e) h

  pub finishes-ended : (ending : Ending) (result : Result Settled Halt) (out : SinkChange) → EndsBy ending lane stack run space → SettlesEnding ending result → out.new ≡ out.old → out.after ≡ out.before
      → Finishes (run_answer (outcome lane stack run).answer) result out
  finishes-ended (Returned number) result out e settles new count = absurd settles
  finishes-ended (Exited number) result out e settles new count = absurd settles
  finishes-ended (Unhandled type) result out e settles new count = absurd settles
  finishes-ended Spent result out e settles new count = as_ended Spent result out e (finishes-settled (ended Spent) result out refl settles new count)
  finishes-ended (Bad token at) result out e settles new count = absurd settles
  finishes-ended Deep result out e settles new count = absurd settles
  finishes-ended SinkFailed result out e settles new count = absurd settles
  finishes-ended (InitFault pc) result out e settles new count =
      as_ended (InitFault pc) result out e (finishes-settled (ended (InitFault pc)) result out refl settles new count)
  finishes-ended Memory result out e settles new count = finishes-memory (run_answer (outcome lane stack run).answer) result out settles new count
