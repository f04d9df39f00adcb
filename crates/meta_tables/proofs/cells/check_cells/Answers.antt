use Rattle.std.proofs.Common.{◌≡◌, get_or, arith}
use Rattle.std.proofs.lemmas.Result.{err_from_is_err_and}
use Rattle.byte_view.specs.Cells.{check_table, check_cells, checked_tables}
use Rattle.meta_tables.specs.Shapes.{view_layout}
use Rattle.meta_tables.specs.Cells.{metadata_of}
use Rattle.byte_view.proofs.Reading.{each_none, each_more}
use Rattle.byte_view.proofs.Refusals.{each_refused}
use Rattle.bound_base.specs.Image.{refusal}
use Rattle.meta_tables.proofs.Checked.{is_checked}
use Rattle.meta_tables.proofs.cells.check_cells.Goals as goal

pub loop-table-init : goal.loop-table-init
loop-table-init c = each_none (λ k. check_table (view_layout c.args.layout.now) (metadata_of c.args.heaps.now c.args.stream.now c.args.layout.now) (get_or checked_tables k 0))

pub check_table-requires-clause-table : goal.check_table-requires-clause-table
check_table-requires-clause-table c = is_checked c.loop-table.table-index

pub returns-in_err-check_table-clause-reads : goal.returns-in_err-check_table-clause-reads
unfolding check_cells
returns-in_err-check_table-clause-reads c =
    let p = err_from_is_err_and c.from_residual.result c.from_residual.ensures.1 in
    rw (p.1, p.2) (each_refused refusal c.in_err-check_table.field-0.0 (λ k. check_table (view_layout c.args.layout.now) (metadata_of c.args.heaps.now c.args.stream.now c.args.layout.now) (get_or checked_tables k 0)) c.loop-table.table-index 19 0 c.loop-table.invariant c.loop-table-test.true c.in_err-check_table.ensures.reads)

pub loop-table-preserved : goal.loop-table-preserved
loop-table-preserved c =
    each_more (λ k. check_table (view_layout c.args.layout.now) (metadata_of c.args.heaps.now c.args.stream.now c.args.layout.now) (get_or checked_tables k 0)) c.loop-table.table-index 0 0 c.loop-table.invariant c.in_ok-check_table.ensures.reads

pub returns-clause-reads : goal.returns-clause-reads
unfolding check_cells
returns-clause-reads c =
    let done : c.loop-table.table-index ≡ 19 = omega arith in
    rw done at c.loop-table.invariant
