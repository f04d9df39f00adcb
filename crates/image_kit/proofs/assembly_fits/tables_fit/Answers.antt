use Rattle.std.proofs.Common.{sym, ap, ◌∙◌}
use Rattle.image_kit.specs.AssemblyFile.{rows_among}
use Rattle.image_kit.specs.AssemblyReads.{fits_table}
use Rattle.image_kit.proofs.PieceLists.{all_below_none, all_below_more, all_below_fails}
use Rattle.image_kit.proofs.PlanPieces.{shape_widths, table_test}
use Rattle.image_kit.proofs.assembly_fits.tables_fit.Goals as goal

pub loop-table-init : goal.loop-table-init
loop-table-init c = all_below_none (fits_table c.args.p.now)

pub returns-then-not-rows_fit : goal.returns-then-not-rows_fit
returns-then-not-rows_fit c =
    let test = table_test c.args.p.now c.loop-table.table _ c.rows_of.result.now c.rows_fit.result c.rows_fit.ensures
    (shape_widths c.args.sizes.now.heap_sizes c.args.sizes.now.rows c.loop-table.table c.shape_rows-shape.result c.args.p.now c.shape_rows-shape.ensures.shape c.requires.heap_sizes c.requires.rows)
    (c.rows_of.ensures ∙ ap (λ ts. rows_among ts c.loop-table.table) c.as_slice.ensures) in
    sym (all_below_fails (fits_table c.args.p.now) 45 c.loop-table.table c.loop-table-test.true (test ∙ c.if-not-rows_fit.true))

pub loop-table-preserved : goal.loop-table-preserved
loop-table-preserved c =
    let test = table_test c.args.p.now c.loop-table.table _ c.rows_of.result.now c.rows_fit.result c.rows_fit.ensures
    (shape_widths c.args.sizes.now.heap_sizes c.args.sizes.now.rows c.loop-table.table c.shape_rows-shape.result c.args.p.now c.shape_rows-shape.ensures.shape c.requires.heap_sizes c.requires.rows)
    (c.rows_of.ensures ∙ ap (λ ts. rows_among ts c.loop-table.table) c.as_slice.ensures) in
    all_below_more (fits_table c.args.p.now) c.loop-table.table c.loop-table.invariant (test ∙ c.if-not-rows_fit.false)
