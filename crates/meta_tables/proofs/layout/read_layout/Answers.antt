use Rattle.std.proofs.Common.{arith}
use Rattle.std.proofs.lemmas.Result.{err_from_is_err_and}
use Rattle.meta_tables.proofs.Starts.{layout_invalid, layout_read}
use Rattle.meta_tables.proofs.layout.read_layout.Goals as goal

pub returns-in_err-check_valid-clause-reads : goal.returns-in_err-check_valid-clause-reads
returns-in_err-check_valid-clause-reads c =
    let p = err_from_is_err_and c.from_residual.result c.from_residual.ensures.1 in
    rw (p.1, p.2) (layout_invalid c.in_err-check_valid.field-0.0 c.args.image.now c.args.start c.number64-valid.result (omega arith) c.number64-valid.ensures c.in_err-check_valid.ensures.reads)

pub returns-clause-reads : goal.returns-clause-reads
returns-clause-reads c =
    layout_read c.args.image.now c.args.start c.number64-valid.result c.number8-heap_sizes.result c.in_ok-rows.rows.items c.in_ok-starts.starts.items (omega arith) c.number8-heap_sizes.ensures c.number64-valid.ensures c.in_ok-check_valid.ensures.reads c.in_ok-rows.ensures
    (rw c.as_slice.ensures.value at c.in_ok-starts.ensures.starts)
