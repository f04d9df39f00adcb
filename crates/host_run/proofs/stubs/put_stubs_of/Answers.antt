use Rattle.std.proofs.Common.{ap, refl, ◌∙◌, Err}
use Rattle.std.proofs.lemmas.Result.{err_from_is_err_and}
use Rattle.bound_base.specs.Image.{refusal}
use Rattle.type_model.specs.Part.{assembly_types}
use Rattle.host_run.specs.Answer.{done}
use Rattle.host_run.specs.Stubs.{stubs_text, stubs_of}
use Rattle.host_run.proofs.Images.{finishes-broken, finishes-same}
use Rattle.host_run.proofs.Outcomes.{finishes-memory}
use Rattle.host_run.proofs.Finished.{finishes-done, finishes-stopped}
use Rattle.host_run.proofs.stubs.put_stubs_of.Goals as goal

pub returns-in-Err : goal.returns-in-Err
returns-in-Err g c =
    finishes-broken stubs_of (λ broken. refl) (refusal c.in-Err.error) (assembly_types c.args.bytes.now) c.broken_image.result _ c.in-Err.ensures c.broken_image.ensures refl refl

pub returns-in_err-known : goal.returns-in_err-known
returns-in_err-known g c =
    let p = err_from_is_err_and c.from_residual.result c.from_residual.ensures.1 in
    finishes-memory (stubs_of (assembly_types c.args.bytes.now)) c.from_residual.result _ (p.1 ∙ ap Err p.2) refl refl

pub returns-in_err-put_stubs : goal.returns-in_err-put_stubs
returns-in_err-put_stubs g c =
    let p = err_from_is_err_and c.from_residual-in_err-put_stubs.result c.from_residual-in_err-put_stubs.ensures.1 in
    let m = c.in-Ok.types in
    rw (p.1, p.2)
    (finishes-same (done (stubs_text m)) (stubs_of (assembly_types c.args.bytes.now)) _ _ (ap stubs_of c.in-Ok.ensures) (finishes-stopped (stubs_text m) _ _ (rw c.in_ok-known.ensures at c.in_err-put_stubs.ensures.puts) c.in_err-put_stubs.ensures.counted c.in_err-put_stubs.ensures.count))

pub returns : goal.returns
returns g c =
    let m = c.in-Ok.types in
    finishes-same (done (stubs_text m)) (stubs_of (assembly_types c.args.bytes.now)) _ _ (ap stubs_of c.in-Ok.ensures) (finishes-done (stubs_text m) c.done.result _ c.done.ensures.status c.done.ensures.texts (rw c.in_ok-known.ensures at c.in_ok-put_stubs.ensures.puts) c.in_ok-put_stubs.ensures.counted c.in_ok-put_stubs.ensures.count)
