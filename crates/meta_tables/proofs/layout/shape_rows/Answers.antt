use Rattle.std.proofs.Common.{◌≡◌, sum, sym, ap, ◌∙◌}
use Rattle.std.proofs.lemmas.List.Sums.{sum-map}
use Rattle.byte_view.specs.Columns.{row_width}
use Rattle.meta_tables.specs.View.{bytes_of}
use Rattle.meta_tables.proofs.Tables.{row_width-sum}
use Rattle.meta_tables.proofs.layout.shape_rows.Goals as goal

pub returns-clause-shape : goal.returns-clause-shape
returns-clause-shape c =
    let e : c.total.result ≡ row_width c.args.heap_sizes c.args.rows.now c.args.table =
    c.total.ensures.sum ∙ sym (sum-map bytes_of c.widths_of-widths.result) ∙ ap sum c.widths_of-widths.ensures ∙ sym (row_width-sum c.args.heap_sizes c.args.rows.now c.args.table) in
    cc
