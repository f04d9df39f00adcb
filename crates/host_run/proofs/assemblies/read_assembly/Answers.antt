use Rattle.std.proofs.Common.{◌≡◌, Err}
use Rattle.std.proofs.lemmas.Result.{err_from_is_err_and}
use Rattle.bound_base.specs.Image.{refusal}
use Rattle.byte_view.specs.Reading.{Reads}
use Rattle.host_run.proofs.TypesRead.{headers_refuse, metadata_refuses, types_read}
use Rattle.host_run.proofs.assemblies.read_assembly.Goals as goal

pub returns-in_err-pe : goal.returns-in_err-pe
returns-in_err-pe c =
    let p = err_from_is_err_and c.from_residual.result c.from_residual.ensures.1 in
    rw (p.1, p.2) (headers_refuse refusal _ c.args.bytes.now c.in_err-pe.ensures.headers)

pub returns-in_err-meta : goal.returns-in_err-meta
returns-in_err-meta c =
    let p = err_from_is_err_and c.from_residual-in_err-meta.result c.from_residual-in_err-meta.ensures.1 in
    rw (p.1, p.2) (metadata_refuses refusal _ c.args.bytes.now _ c.in_ok-pe.ensures.headers c.in_err-meta.ensures.reads)

pub returns : goal.returns
returns c = rw (types_read c.args.bytes.now _ _ c.in_ok-pe.ensures.headers c.in_ok-meta.ensures.reads) c.load.ensures
