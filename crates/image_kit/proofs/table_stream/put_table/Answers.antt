use Rattle.image_kit.specs.AssemblyFile.{row_bytes, widths, written_row}
use Rattle.image_kit.proofs.PlanPieces.{pieces_start, table_grown, shape_widths}
use Rattle.image_kit.proofs.table_stream.put_table.Goals as goal

pub loop-at-init : goal.loop-at-init
loop-at-init c = pieces_start c.args.out.now (λ row. row_bytes (widths c.args.p.now c.args.table) (written_row c.args.p.now c.args.table row))

pub loop-at-preserved : goal.loop-at-preserved
loop-at-preserved c =
    table_grown c.args.out.now c.loop-at.out c.put_row.new.out c.args.p.now c.args.table c.loop-at.at _ c.row_to_write-row.result c.loop-at.invariant c.in_ok-put_row.ensures
    (shape_widths c.args.sizes.now.heap_sizes c.args.sizes.now.rows c.args.table c.shape_rows-shape.result c.args.p.now c.shape_rows-shape.ensures.shape c.requires.heap_sizes c.requires.rows)
    c.row_to_write-row.ensures
