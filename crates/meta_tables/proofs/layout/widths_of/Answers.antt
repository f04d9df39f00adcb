use Rattle.std.proofs.Common.{◌≡◌, ◌<◌, List, length, map, slice_get, subst, arith, length-set}
use Rattle.std.specs.List.{range_with_len}
use Rattle.byte_view.specs.Columns.{Column}
use Rattle.meta_tables.specs.View.{bytes_of, view_column}
use Rattle.meta_tables.specs.Shapes.{width_at}
use Rattle.meta_tables.proofs.Tables.{widths_more, widths_all}
use Rattle.meta_tables.proofs.layout.widths_of.Goals as goal

pub loop-at-preserved : goal.loop-at-preserved
loop-at-preserved c =
    let within : c.loop-at.at < length c.loop-at.widths = omega (arith, c.loop-at.invariant.len) in
    record {
      widths = widths_more c.loop-at.widths c.loop-at.at c.cell_width.result (λ k. width_at c.args.heap_sizes c.args.rows.now (slice_get (map view_column c.columns-columns.result.now) k)) within c.loop-at.invariant.widths c.cell_width.ensures;
      len = rw length-set c.loop-at.invariant.len;
    }

pub returns : goal.returns
returns c =
    let here : c.loop-at.at ≡ 9 = omega arith in
    let whole = widths_all c.loop-at.widths c.loop-at.at (λ k. width_at c.args.heap_sizes c.args.rows.now (slice_get (map view_column c.columns-columns.result.now) k)) c.loop-at.invariant.len here c.loop-at.invariant.widths in
    subst (λ (cols : List Column). map bytes_of c.loop-at.widths ≡ map (λ k. width_at c.args.heap_sizes c.args.rows.now (slice_get cols k)) (range_with_len 0 9)) c.columns-columns.ensures whole
