use Rattle.std.proofs.Common.{◌≡◌, ◌<◌, ◌^◌, length, map, true, false, ◌∙◌, arith}
use Rattle.std.specs.Prelude.{nat_lt, slice_index}
use Rattle.meta_tables.specs.declared.columns.Width.TheVariants as widths
use Rattle.meta_tables.specs.View.{bytes_of}
use Rattle.image_kit.proofs.PieceLists.{all_below_none, all_below_more, all_below_fails}
use Rattle.image_kit.proofs.PlanPieces.{number_test, row_test}
use Rattle.image_kit.proofs.assembly_fits.row_fits.Goals as goal

pub loop-column-init : goal.loop-column-init
loop-column-init c = all_below_none (λ column. nat_lt (slice_index c.args.row.now column) (256 ^ slice_index (map bytes_of c.args.widths.now) column))

pub returns-then-not-number_fits : goal.returns-then-not-number_fits
returns-then-not-number_fits c =
    let here : c.loop-column.column < length c.args.widths.now = omega arith in
    let test = number_test c.args.widths.now c.args.row.now c.loop-column.column widths.None c.number_fits.result here c.number_fits.ensures in
    row_test (map bytes_of c.args.widths.now) c.args.row.now false (omega arith)
    (all_below_fails (λ column. nat_lt (slice_index c.args.row.now column) (256 ^ slice_index (map bytes_of c.args.widths.now) column)) 9 c.loop-column.column c.loop-column-test.true (test ∙ c.if-not-number_fits.true))

pub loop-column-preserved : goal.loop-column-preserved
loop-column-preserved c =
    let here : c.loop-column.column < length c.args.widths.now = omega arith in
    let test = number_test c.args.widths.now c.args.row.now c.loop-column.column widths.None c.number_fits.result here c.number_fits.ensures in
    all_below_more (λ column. nat_lt (slice_index c.args.row.now column) (256 ^ slice_index (map bytes_of c.args.widths.now) column)) c.loop-column.column c.loop-column.invariant (test ∙ c.if-not-number_fits.false)

pub returns : goal.returns
returns c =
    let done : c.loop-column.column ≡ 9 = omega arith in
    row_test (map bytes_of c.args.widths.now) c.args.row.now true (omega arith) (rw done at c.loop-column.invariant)
