use Rattle.std.proofs.Common.{◌+◌, refl, sym, ◌∙◌, arith}
use Rattle.byte_view.specs.Layout.{start_of}
use Rattle.byte_view.proofs.Reading.{listed_fails}
use Rattle.byte_view.proofs.Reading.{listed_none, listed_more}
use Rattle.meta_tables.proofs.Tables.{first_start, start_passes, start_fails}
use Rattle.meta_tables.proofs.Starts.{end_is, shapes_more}
use Rattle.meta_tables.proofs.layout.lay_out.Goals as goal

pub loop-table-init : goal.loop-table-init
loop-table-init c = record {
  starts = rw c.new-starts.ensures.items (listed_none (start_of c.args.image.now c.args.start c.args.valid c.args.heap_sizes c.args.rows.now));
  shapes = rw c.new-shapes.ensures.items refl;
  at = c.count_place-at.ensures.place ∙ sym (first_start c.args.start c.args.valid c.args.heap_sizes c.args.rows.now);
  small = omega arith;
}

pub returns-then-end-image-clause-starts : goal.returns-then-end-image-clause-starts
returns-then-end-image-clause-starts c =
    let next = end_is c.args.start c.args.valid c.args.heap_sizes c.args.rows.now c.loop-table.table c.loop-table.at c.rows_at.result c.shape_rows-shape.result c.rows_size.result c.loop-table.invariant.at c.rows_at.ensures c.shape_rows-shape.ensures.shape c.rows_size.ensures.size in
    let fails = start_fails c.args.image.now c.args.start c.args.valid c.args.heap_sizes c.args.rows.now c.loop-table.table (c.loop-table.at + c.rows_size.result) next c.if-end-image.true in
    rw (c.bad.ensures, c.count_place-count_at.ensures.place)
    (listed_fails (start_of c.args.image.now c.args.start c.args.valid c.args.heap_sizes c.args.rows.now) c.loop-table.table 45 c.loop-table.starts.items _ c.loop-table.invariant.starts fails c.loop-table-test.true)

pub loop-table-preserved : goal.loop-table-preserved
loop-table-preserved c =
    let next = end_is c.args.start c.args.valid c.args.heap_sizes c.args.rows.now c.loop-table.table c.loop-table.at c.rows_at.result c.shape_rows-shape.result c.rows_size.result c.loop-table.invariant.at c.rows_at.ensures c.shape_rows-shape.ensures.shape c.rows_size.ensures.size in
    let passes = start_passes c.args.image.now c.args.start c.args.valid c.args.heap_sizes c.args.rows.now c.loop-table.table (c.loop-table.at + c.rows_size.result) next c.if-end-image.false in
    record {
      starts = rw (c.in_ok-push.ensures.items, c.loop-table.invariant.at)
          (listed_more (start_of c.args.image.now c.args.start c.args.valid c.args.heap_sizes c.args.rows.now) c.loop-table.table c.loop-table.starts.items _ c.loop-table.invariant.starts passes);
      shapes = rw c.in_ok-push-2.ensures.items (shapes_more c.args.heap_sizes c.args.rows.now c.loop-table.table c.loop-table.shapes.items c.shape_rows-shape.result c.loop-table.invariant.shapes c.shape_rows-shape.ensures.shape);
      at = sym next;
      small = omega arith;
    }
