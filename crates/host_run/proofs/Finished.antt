-- A text that is the whole answer was put, or not.
use Rattle.std.proofs.Common.{◌≡◌, ap, ℕ, ◌≤◌, List, [], Ok, Err}
use Rattle.bound_base.specs.declared.put.PutError.{PutError}
use Rattle.bound_base.specs.declared.put.PutError.TheVariants as put
use Rattle.host_run.specs.declared.settled.Settled.{Settled}
use Rattle.host_run.specs.Settled.{joined, put_halt}
use Rattle.bound_base.specs.Put.{CountsPut}
use Rattle.host_run.specs.Answer.{done}
use Rattle.host_run.specs.Called.{SinkChange, Gets, GetsFront, Finishes}

pub finishes-done : (text : List ℕ) (settled : Settled) (out : SinkChange) → settled.status ≡ 0 → settled.texts ≡ [] → Gets out text → out.after ≡ out.before → out.before ≤ out.after → Finishes (done text) (Ok settled) out
finishes-done text settled out status texts gets counted count =
    record { meets = (record { status = status; texts = ap joined texts }, gets); no_read = tt; counted = counted; count = count }

pub finishes-stopped : (text : List ℕ) (e : PutError) (out : SinkChange) → GetsFront out text → CountsPut (Err e) out.before out.after → out.before ≤ out.after → Finishes (done text) (Err (put_halt e)) out
finishes-stopped text put.Memory out front counted count = record { meets = front; no_read = tt; counted = counted; count = count }
finishes-stopped text put.SinkFailed out front counted count = record { meets = front; no_read = tt; counted = counted; count = count }
