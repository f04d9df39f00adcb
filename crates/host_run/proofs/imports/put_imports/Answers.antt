use Rattle.std.proofs.Common.{arith}
use Rattle.std.proofs.lemmas.Result.{err_from_is_err_and}
use Rattle.type_model.specs.MemberViews.{view_import_row}
use Rattle.host_run.specs.Imports.{import_line, imports_text}
use Rattle.host_run.proofs.ImportRows.{texts_split, text_more, text_past}
use Rattle.host_run.proofs.Puts.{front-append, front-after}
use Rattle.host_run.proofs.imports.put_imports.Goals as goal
use Rattle.host_run.proofs.imports.put_imports.Goals.{in-Some+in_ok-put_import-in-Some, in-None}

pub returns-in_err-put_import-in-Some-clause-puts : goal.returns-in_err-put_import-in-Some-clause-puts
unfolding imports_text
returns-in_err-put_import-in-Some-clause-puts g c =
    let p = err_from_is_err_and c.from_residual.result c.from_residual.ensures.1 in
    let split = texts_split import_line c.args.types.now c.loop-n.n (view_import_row c.in-Some.row) c.in-Some.ensures in
    rw (p.1, split.1)
    (front-after _ _ _ _ _ c.loop-n.invariant.lines (front-append _ _ _ _ c.in_err-put_import-in-Some.ensures.puts))

pub loop-n-preserved : goal.loop-n-preserved
loop-n-preserved g c =
    let m = c.args.types.now in
    record {
      lines = elim c.match-import_row.branch [
        | in-Some+in_ok-put_import-in-Some w ↦
            rw w.out-is (text_more import_line m c.loop-n.n _ _ _ (view_import_row w.in-Some.row) c.loop-n.invariant.lines w.in-Some.ensures w.in_ok-put_import-in-Some.ensures.puts)
        | in-None w ↦ rw w.out-is (text_past import_line m c.loop-n.n _ _ c.loop-n.invariant.lines w.in-None.ensures)
      ];
      count = elim c.match-import_row.branch [ in-Some+in_ok-put_import-in-Some w ↦ rw w.out-is (omega (arith, w.in_ok-put_import-in-Some.ensures.counted)) | in-None w ↦ rw w.out-is (omega arith) ];
    }
