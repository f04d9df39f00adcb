use Rattle.std.proofs.Common.{◌∙◌, arith}
use Rattle.meta_tables.proofs.RowCells.{row_lies, row_starts, row_ends, has_rows}
use Rattle.meta_tables.proofs.rows.row_start.Goals as goal

pub shape_in-shape-requires : goal.shape_in-shape-requires
shape_in-shape-requires c = record {
  shapes = c.requires.layout.shapes;
  table = has_rows c.args.layout.now.rows.items c.args.table c.args.row c.requires.layout.rows c.requires.row;
}

pub start_in-start-requires : goal.start_in-start-requires
start_in-start-requires c =
    let h = has_rows c.args.layout.now.rows.items c.args.table c.args.row c.requires.layout.rows c.requires.row in
    omega (arith, h, c.requires.layout.starts)

pub row_after-requires : goal.row_after-requires
row_after-requires c =
    let lies = row_lies c.args.stream.now c.args.layout.now c.args.table c.args.row c.shape_in-shape.result c.start_in-start.result c.requires.layout c.requires.row c.shape_in-shape.ensures c.start_in-start.ensures in
    omega (arith, lies)

pub returns-clause-place : goal.returns-clause-place
returns-clause-place c =
    c.row_after.ensures ∙ row_starts c.args.layout.now c.args.table c.args.row c.shape_in-shape.result c.start_in-start.result c.shape_in-shape.ensures c.start_in-start.ensures

pub returns-clause-within : goal.returns-clause-within
returns-clause-within c =
    let here = c.row_after.ensures ∙ row_starts c.args.layout.now c.args.table c.args.row c.shape_in-shape.result c.start_in-start.result c.shape_in-shape.ensures c.start_in-start.ensures in
    let ends = row_ends c.args.stream.now c.args.layout.now c.args.table c.args.row c.requires.layout c.requires.row in
    omega (arith, here, ends)
