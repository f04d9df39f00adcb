use Rattle.std.proofs.Common.{List, ℕ, ◌≡◌, map, ap, ◌∙◌, arith}
use Rattle.meta_tables.specs.View.{bytes_of}
use Rattle.meta_tables.specs.Shapes.{view_layout, cell_widths}
use Rattle.meta_tables.proofs.RowCells.{row_is, shape_width, has_rows}
use Rattle.meta_tables.proofs.rows.row_in.Goals as goal

pub shape_in-shape-requires : goal.shape_in-shape-requires
shape_in-shape-requires c = record {
  shapes = c.requires.layout.shapes;
  table = has_rows c.args.layout.now.rows.items c.args.table c.args.row c.requires.layout.rows c.requires.row;
}

pub row_from-requires : goal.row_from-requires
row_from-requires c =
    let total = shape_width c.args.layout.now.heap_sizes c.args.layout.now.rows.items c.args.table c.shape_in-shape.result c.shape_in-shape.ensures in
    omega (arith, total, c.row_start-place.ensures.within)

pub returns : goal.returns
returns c =
    let widths : map bytes_of c.shape_in-shape.result.widths ≡ cell_widths c.args.layout.now.heap_sizes c.args.layout.now.rows.items c.args.table = ap (λ (p : List ℕ × ℕ). p.0) c.shape_in-shape.ensures in
    c.row_from.ensures ∙ row_is c.args.stream.now (view_layout c.args.layout.now) c.args.table c.args.row c.row_start-place.result (map bytes_of c.shape_in-shape.result.widths) widths c.row_start-place.ensures.place
