use Rattle.std.proofs.Common.{◌≡◌, ◌+◌, ◌*◌, ◌<◌, List, ℕ, get_or, sym, ap, refl, ◌∙◌, add-one, arith}
use Rattle.std.proofs.lemmas.Result.{err_from_is_err_and}
use Rattle.byte_view.specs.Cells.{check_row}
use Rattle.meta_tables.specs.Shapes.{view_layout}
use Rattle.meta_tables.specs.Cells.{metadata_of}
use Rattle.byte_view.proofs.Reading.{each_none, each_more}
use Rattle.meta_tables.proofs.RowCells.{row_lies}
use Rattle.meta_tables.proofs.Checks.{row_check_is, table_passes, table_refused, columns_short, now_is}
use Rattle.meta_tables.proofs.cells.check_table.Goals as goal

pub loop-init : goal.loop-init
loop-init c = record {
  passed = each_none (check_row (view_layout c.args.layout.now) (metadata_of c.args.heaps.now c.args.stream.now c.args.layout.now) c.args.table);
  place = omega (arith, c.start_in-place.ensures);
  before = refl;
}

pub row_from-row-requires : goal.row_from-row-requires
row_from-row-requires c =
    let count : c.rows_at-end.result ≡ get_or c.args.layout.now.rows.items c.args.table 0 = c.rows_at-end.ensures ∙ ap (λ (rs : List ℕ). get_or rs c.args.table 0) c.as_slice-rows.ensures.value in
    let within : c.loop.counter < get_or c.args.layout.now.rows.items c.args.table 0 = omega (arith, count) in
    rw c.loop.invariant.place (row_lies c.args.stream.now c.args.layout.now c.args.table c.loop.counter c.shape_in-shape.result (get_or c.args.layout.now.starts.items c.args.table 0) c.requires.layout within c.shape_in-shape.ensures refl)

pub check_row-requires-clause-columns : goal.check_row-requires-clause-columns
check_row-requires-clause-columns c = columns_short c.columns-columns.result.now c.args.table c.columns-columns.ensures

pub check_row-requires-clause-start : goal.check_row-requires-clause-start
check_row-requires-clause-start c =
    let count : c.rows_at-end.result ≡ get_or c.args.layout.now.rows.items c.args.table 0 = c.rows_at-end.ensures ∙ ap (λ (rs : List ℕ). get_or rs c.args.table 0) c.as_slice-rows.ensures.value in
    let within : c.loop.counter < get_or c.args.layout.now.rows.items c.args.table 0 = omega (arith, count) in
    let lies = row_lies c.args.stream.now c.args.layout.now c.args.table c.loop.counter c.shape_in-shape.result (get_or c.args.layout.now.starts.items c.args.table 0) c.requires.layout within c.shape_in-shape.ensures refl in
    omega (arith, lies, c.loop.invariant.place)

pub returns-in_err-check_row-clause-reads : goal.returns-in_err-check_row-clause-reads
returns-in_err-check_row-clause-reads c =
    let p = err_from_is_err_and c.from_residual.result c.from_residual.ensures.1 in
    let count : c.rows_at-end.result ≡ get_or c.args.layout.now.rows.items c.args.table 0 = c.rows_at-end.ensures ∙ ap (λ (rs : List ℕ). get_or rs c.args.table 0) c.as_slice-rows.ensures.value in
    let within : c.loop.counter < get_or c.args.layout.now.rows.items c.args.table 0 = omega (arith, count) in
    let now = now_is c.args.stream.now c.args.layout.now c.args.table c.loop.counter c.loop.place c.shape_in-shape.result c.row_from-row.result c.shape_in-shape.ensures c.loop.invariant.place c.row_from-row.ensures in
    let same = row_check_is c.args.heaps.now c.args.stream.now c.args.layout.now c.args.table c.loop.counter c.loop.place c.shape_in-shape.result c.columns-columns.result.now c.as_slice-rows.result.now c.loop.before c.row_from-row.result c.requires.layout c.as_slice-rows.ensures.value within c.shape_in-shape.ensures c.loop.invariant.place c.columns-columns.ensures c.loop.invariant.before now in
    rw (p.1, p.2) (table_refused c.in_err-check_row.field-0.0 c.args.heaps.now c.args.stream.now c.args.layout.now c.args.table c.loop.counter c.requires.layout.rows c.loop.invariant.passed within (rw same at c.in_err-check_row.ensures.reads))

pub loop-preserved : goal.loop-preserved
loop-preserved c =
    let count : c.rows_at-end.result ≡ get_or c.args.layout.now.rows.items c.args.table 0 = c.rows_at-end.ensures ∙ ap (λ (rs : List ℕ). get_or rs c.args.table 0) c.as_slice-rows.ensures.value in
    let within : c.loop.counter < get_or c.args.layout.now.rows.items c.args.table 0 = omega (arith, count) in
    let now = now_is c.args.stream.now c.args.layout.now c.args.table c.loop.counter c.loop.place c.shape_in-shape.result c.row_from-row.result c.shape_in-shape.ensures c.loop.invariant.place c.row_from-row.ensures in
    let same = row_check_is c.args.heaps.now c.args.stream.now c.args.layout.now c.args.table c.loop.counter c.loop.place c.shape_in-shape.result c.columns-columns.result.now c.as_slice-rows.result.now c.loop.before c.row_from-row.result c.requires.layout c.as_slice-rows.ensures.value within c.shape_in-shape.ensures c.loop.invariant.place c.columns-columns.ensures c.loop.invariant.before now in
    let next : (c.loop.counter + 1) * c.shape_in-shape.result.row_width ≡ c.loop.counter * c.shape_in-shape.result.row_width + c.shape_in-shape.result.row_width = grind arith in
    record {
      passed = each_more (check_row (view_layout c.args.layout.now) (metadata_of c.args.heaps.now c.args.stream.now c.args.layout.now) c.args.table) c.loop.counter 0 0 c.loop.invariant.passed (sym same ∙ c.in_ok-check_row.ensures.reads);
      place = omega (arith, next, c.loop.invariant.place);
      before = rw add-one now;
    }

pub returns-clause-reads : goal.returns-clause-reads
returns-clause-reads c =
    let count : c.rows_at-end.result ≡ get_or c.args.layout.now.rows.items c.args.table 0 = c.rows_at-end.ensures ∙ ap (λ (rs : List ℕ). get_or rs c.args.table 0) c.as_slice-rows.ensures.value in
    table_passes c.args.heaps.now c.args.stream.now c.args.layout.now c.args.table c.loop.counter c.requires.layout.rows c.loop.invariant.passed (omega (arith, count))
