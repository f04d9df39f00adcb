use Rattle.std.proofs.Common.{arith}
use Rattle.std.proofs.lemmas.Result.{err_from_is_err_and}
use Rattle.type_model.specs.MemberViews.{view_import_row}
use Rattle.host_run.specs.Stubs.{row_lines, stubs_text}
use Rattle.host_run.proofs.ImportRows.{texts_split, text_more, text_past}
use Rattle.host_run.proofs.Puts.{front-append, front-after}
use Rattle.host_run.proofs.stubs.put_stubs.Goals as goal
use Rattle.host_run.proofs.stubs.put_stubs.Goals.{in-Some+in_ok-put_lines_of-in-Some, in-None}

pub returns-in_err-put_lines_of-in-Some-clause-puts : goal.returns-in_err-put_lines_of-in-Some-clause-puts
unfolding stubs_text
returns-in_err-put_lines_of-in-Some-clause-puts g c =
    let p = err_from_is_err_and c.from_residual.result c.from_residual.ensures.1 in
    let split = texts_split (row_lines c.args.known.now) c.args.known.now c.loop-n.n (view_import_row c.in-Some.row) (rw c.types-in-loop-n.ensures at c.in-Some.ensures) in
    rw (p.1, split.1)
    (front-after _ _ _ _ _ c.loop-n.invariant.lines (front-append _ _ _ _ c.in_err-put_lines_of-in-Some.ensures.puts))

pub loop-n-preserved : goal.loop-n-preserved
loop-n-preserved g c =
    let m = c.args.known.now in
    record {
      lines = elim c.match-import_row.branch [
        | in-Some+in_ok-put_lines_of-in-Some w ↦
            rw w.out-is (text_more (row_lines m) m c.loop-n.n _ _ _ (view_import_row w.in-Some.row) c.loop-n.invariant.lines (rw c.types-in-loop-n.ensures at w.in-Some.ensures) w.in_ok-put_lines_of-in-Some.ensures.puts)
        | in-None w ↦ rw w.out-is (text_past (row_lines m) m c.loop-n.n _ _ c.loop-n.invariant.lines (rw c.types-in-loop-n.ensures at w.in-None.ensures))
      ];
      count = elim c.match-import_row.branch [ in-Some+in_ok-put_lines_of-in-Some w ↦ rw w.out-is (omega (arith, w.in_ok-put_lines_of-in-Some.ensures.counted)) | in-None w ↦ rw w.out-is (omega arith) ];
    }
