use Rattle.std.proofs.Common.{◌<◌, ◌++◌, length, map, ap, ◌∙◌, arith}
use Rattle.std.specs.Prelude.{slice_index}
use Rattle.byteorder.specs.Endian.{little_bytes}
use Rattle.meta_tables.specs.declared.columns.Width.TheVariants as widths
use Rattle.meta_tables.specs.View.{bytes_of}
use Rattle.image_kit.proofs.PieceLists.{pieces_grown}
use Rattle.image_kit.proofs.PlanPieces.{pieces_start, cell_is}
use Rattle.image_kit.proofs.table_stream.put_row.Goals as goal

pub loop-column-init : goal.loop-column-init
loop-column-init c = pieces_start c.args.out.now (λ column. little_bytes (slice_index (map bytes_of c.args.widths.now) column) (slice_index c.args.row.now column))

pub loop-column-preserved : goal.loop-column-preserved
loop-column-preserved c =
    let here : c.loop-column.column < length c.args.widths.now = omega arith in
    pieces_grown c.args.out.now c.loop-column.out c.put_cell.new.out (λ column. little_bytes (slice_index (map bytes_of c.args.widths.now) column) (slice_index c.args.row.now column)) c.loop-column.column c.loop-column.invariant
    (c.in_ok-put_cell.ensures ∙ ap (λ xs. c.loop-column.out ++ xs) (cell_is c.args.widths.now c.args.row.now c.loop-column.column widths.None here))
