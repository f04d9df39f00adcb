use Rattle.std.proofs.Common.{◌<◌, ◌+◌, length, map, length-set, arith, ◌≡◌, get_or, take}
use Rattle.std.specs.List.{sum_by}
use Rattle.std.proofs.lemmas.List.Sums.{sum_by_more}
use Rattle.meta_tables.specs.declared.columns.Width.TheVariants as widths
use Rattle.meta_tables.specs.View.{bytes_of}
use Rattle.meta_tables.specs.Shapes.{cell_at}
use Rattle.meta_tables.proofs.RowCells.{cells_more, cell_here}
use Rattle.meta_tables.proofs.rows.row_from.Goals as goal

pub loop-column-preserved : goal.loop-column-preserved
loop-column-preserved c =
    let here : c.loop-column.column < length c.args.widths.now = omega arith in
    let within : c.loop-column.column < length c.loop-column.cells = omega (arith, c.loop-column.invariant.len) in
    let value = cell_here c.args.stream.now c.args.start c.args.widths.now c.loop-column.column c.loop-column.place c.cell.result widths.None here c.loop-column.invariant.place c.cell.ensures in
    let more : sum_by bytes_of (take (c.loop-column.column + 1) c.args.widths.now) ≡ sum_by bytes_of (take c.loop-column.column c.args.widths.now) + bytes_of (get_or c.args.widths.now c.loop-column.column widths.None) =
    sum_by_more bytes_of c.args.widths.now c.loop-column.column widths.None here in
    record {
      cells = cells_more (cell_at c.args.stream.now c.args.start (map bytes_of c.args.widths.now)) c.loop-column.cells c.loop-column.column c.cell.result within c.loop-column.invariant.cells value;
      len = rw length-set c.loop-column.invariant.len;
      place = omega (arith, more, c.loop-column.invariant.place, c.bytes-place.ensures.bytes);
    }
