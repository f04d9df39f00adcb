use Rattle.std.proofs.Common.{◌≡◌, ◌+◌, ◌<◌, length, get_or, take, map, sym, ◌∙◌, arith}
use Rattle.std.specs.List.{sum_by}
use Rattle.std.proofs.lemmas.List.Sums.{sum_by_more}
use Rattle.byte_view.proofs.Reading.{each_fails}
use Rattle.meta_tables.specs.declared.columns.Column.TheVariants as cols
use Rattle.meta_tables.specs.declared.columns.Width.TheVariants as widths
use Rattle.meta_tables.specs.View.{bytes_of, view_column}
use Rattle.meta_tables.specs.Cells.{sizes_of, tests_row}
use Rattle.byte_view.proofs.Reading.{must_fail, must_pass, each_none, each_more}
use Rattle.meta_tables.proofs.Checks.{test_is}
use Rattle.meta_tables.proofs.cells.check_row.Goals as goal

pub loop-column-init : goal.loop-column-init
loop-column-init c = record {
  passed = each_none (tests_row (sizes_of c.args.heaps.now c.args.rows.now) (map view_column c.args.columns.now) (map bytes_of c.args.widths.now) c.args.start c.args.before.now c.args.row.now);
  place = omega arith;
  small = omega arith;
}

pub returns-then-not-is_sound-clause-reads : goal.returns-then-not-is_sound-clause-reads
returns-then-not-is_sound-clause-reads c =
    let test = test_is (sizes_of c.args.heaps.now c.args.rows.now) c.args.columns.now c.args.widths.now c.args.start c.args.before.now c.args.row.now c.loop-column.column (cols.Number widths.None) c.loop-column-test.true in
    let fails = test ∙ must_fail _ (12, c.args.start + sum_by bytes_of (take c.loop-column.column c.args.widths.now)) (sym c.is_sound.ensures ∙ c.if-not-is_sound.true) in
    rw (c.bad.ensures, c.loop-column.invariant.place)
    (each_fails (tests_row (sizes_of c.args.heaps.now c.args.rows.now) (map view_column c.args.columns.now) (map bytes_of c.args.widths.now) c.args.start c.args.before.now c.args.row.now) c.loop-column.column (length c.args.columns.now) 0 _ c.loop-column.invariant.passed fails c.loop-column-test.true)

pub loop-column-preserved : goal.loop-column-preserved
loop-column-preserved c =
    let test = test_is (sizes_of c.args.heaps.now c.args.rows.now) c.args.columns.now c.args.widths.now c.args.start c.args.before.now c.args.row.now c.loop-column.column (cols.Number widths.None) c.loop-column-test.true in
    let passes = test ∙ must_pass _ (12, c.args.start + sum_by bytes_of (take c.loop-column.column c.args.widths.now)) (sym c.is_sound.ensures ∙ c.if-not-is_sound.false) in
    let within : c.loop-column.column < length c.args.widths.now = omega arith in
    let more : sum_by bytes_of (take (c.loop-column.column + 1) c.args.widths.now) ≡ sum_by bytes_of (take c.loop-column.column c.args.widths.now) + bytes_of (get_or c.args.widths.now c.loop-column.column widths.None) =
    sum_by_more bytes_of c.args.widths.now c.loop-column.column widths.None within in
    record {
      passed = each_more (tests_row (sizes_of c.args.heaps.now c.args.rows.now) (map view_column c.args.columns.now) (map bytes_of c.args.widths.now) c.args.start c.args.before.now c.args.row.now) c.loop-column.column 0 0 c.loop-column.invariant.passed passes;
      place = omega (arith, more, c.loop-column.invariant.place, c.bytes-place.ensures.bytes);
      small = omega (arith, c.loop-column.invariant.small, c.bytes-place.ensures.small);
    }
