use Rattle.std.proofs.Common.{[]}
use Rattle.meta_tables.proofs.RowCells.{shape_at}
use Rattle.meta_tables.proofs.rows.shape_in.Goals as goal

pub returns : goal.returns
returns c =
    rw c.as_slice-shapes.ensures.value (shape_at c.args.layout.now.heap_sizes c.args.layout.now.rows.items c.args.layout.now.shapes.items c.args.table (record { widths = []; row_width = 0 }) c.requires.shapes c.requires.table)
