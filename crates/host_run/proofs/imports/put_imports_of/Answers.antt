use Rattle.std.proofs.Common.{ap, refl}
use Rattle.std.proofs.lemmas.Result.{err_from_is_err_and}
use Rattle.bound_base.specs.Image.{refusal}
use Rattle.type_model.specs.Part.{assembly_types}
use Rattle.host_run.specs.Answer.{done}
use Rattle.host_run.specs.Imports.{imports_text, imports_of}
use Rattle.host_run.proofs.Images.{finishes-broken, finishes-same}
use Rattle.host_run.proofs.Finished.{finishes-done, finishes-stopped}
use Rattle.host_run.proofs.imports.put_imports_of.Goals as goal

pub returns-in-Err : goal.returns-in-Err
returns-in-Err g c =
    finishes-broken imports_of (λ broken. refl) (refusal c.in-Err.error) (assembly_types c.args.bytes.now) c.broken_image.result _ c.in-Err.ensures c.broken_image.ensures refl refl

pub returns-in_err-put_imports : goal.returns-in_err-put_imports
returns-in_err-put_imports g c =
    let p = err_from_is_err_and c.from_residual.result c.from_residual.ensures.1 in
    let m = c.in-Ok.types in
    rw (p.1, p.2)
    (finishes-same (done (imports_text m)) (imports_of (assembly_types c.args.bytes.now)) _ _ (ap imports_of c.in-Ok.ensures) (finishes-stopped (imports_text m) _ _ c.in_err-put_imports.ensures.puts c.in_err-put_imports.ensures.counted c.in_err-put_imports.ensures.count))

pub returns : goal.returns
returns g c =
    let m = c.in-Ok.types in
    finishes-same (done (imports_text m)) (imports_of (assembly_types c.args.bytes.now)) _ _ (ap imports_of c.in-Ok.ensures) (finishes-done (imports_text m) c.done.result _ c.done.ensures.status c.done.ensures.texts c.in_ok-put_imports.ensures.puts c.in_ok-put_imports.ensures.counted c.in_ok-put_imports.ensures.count)
