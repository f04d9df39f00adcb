use Rattle.std.proofs.lemmas.Result.{err_from_is_err_and}
use Rattle.byte_view.specs.Layout.{row_count}
use Rattle.byte_view.proofs.Reading.{listed_none, listed_more}
use Rattle.byte_view.proofs.Refusals.{listed_refused}
use Rattle.bound_base.specs.Image.{refusal}
use Rattle.meta_tables.proofs.layout.row_counts.Goals as goal

pub loop-table-init : goal.loop-table-init
loop-table-init c = rw c.new-rows.ensures.items (listed_none (row_count c.args.image.now c.args.start c.args.valid))

pub returns-in_err-row_count_of : goal.returns-in_err-row_count_of
returns-in_err-row_count_of c =
    let p = err_from_is_err_and c.from_residual.result c.from_residual.ensures.1 in
    rw (p.1, p.2) (listed_refused refusal c.in_err-row_count_of.field-0.0 (row_count c.args.image.now c.args.start c.args.valid) c.loop-table.table 45 c.loop-table.rows.items c.loop-table.invariant c.loop-table-test.true c.in_err-row_count_of.ensures.reads)

pub loop-table-preserved : goal.loop-table-preserved
loop-table-preserved c =
    rw c.in_ok-push.ensures.items (listed_more (row_count c.args.image.now c.args.start c.args.valid) c.loop-table.table c.loop-table.rows.items c.in_ok-row_count_of.field-0 c.loop-table.invariant c.in_ok-row_count_of.ensures.reads)
