use Rattle.std.proofs.lemmas.Result.{err_from_is_err_and}
use Rattle.host_run.proofs.Puts.{puts-after, front-append}
use Rattle.host_run.proofs.imports.put_import.Goals as goal

pub returns-in_err-put_name-clause-puts : goal.returns-in_err-put_name-clause-puts
returns-in_err-put_name-clause-puts g c =
    let p = err_from_is_err_and c.from_residual.result c.from_residual.ensures.1 in
    rw p.1 (front-append _ _ _ _ c.in_err-put_name.ensures.puts)

pub returns-clause-puts : goal.returns-clause-puts
returns-clause-puts g c =
    puts-after _ _ _ _ _ c.put_name-2.result c.in_ok-put_name.ensures.puts c.put_name-2.ensures.puts
