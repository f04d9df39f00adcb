use Rattle.std.proofs.Common.{◌+◌, take, refl}
use Rattle.std.proofs.lemmas.Result.{err_from_is_err_and}
use Rattle.meta_tables.specs.View.{view_range, view_streams}
use Rattle.meta_tables.proofs.Whole.{laid_out, metadata_read, metadata_refused, streams_broken, layout_broken}
use Rattle.meta_tables.proofs.meta.read_meta.Goals as goal

pub returns-in_err-tables-clause-reads : goal.returns-in_err-tables-clause-reads
returns-in_err-tables-clause-reads c =
    let p = err_from_is_err_and c.from_residual.result c.from_residual.ensures.1 in
    rw (p.1, p.2) (streams_broken c.in_err-tables.field-0.0 (take (c.args.at + c.args.size) c.args.bytes.now) c.args.at c.in_err-tables.ensures.reads)

pub returns-in_err-layout-clause-reads : goal.returns-in_err-layout-clause-reads
returns-in_err-layout-clause-reads c =
    let p = err_from_is_err_and c.from_residual-in_err-layout.result c.from_residual-in_err-layout.ensures.1 in
    rw (p.1, p.2)
    (layout_broken c.in_err-layout.field-0.0 (take (c.args.at + c.args.size) c.args.bytes.now) c.args.at (view_range c.in_ok-tables.tables) (view_streams c.in_ok-tables.streams) _ c.in_ok-tables.ensures.reads refl c.in_err-layout.ensures.reads)

pub check_cells-requires : goal.check_cells-requires
check_cells-requires c = laid_out _ c.in_ok-tables.tables.start c.in_ok-layout.layout c.in_ok-layout.ensures.reads c.in_ok-layout.ensures.shapes

pub returns-in_err-check_cells-clause-reads : goal.returns-in_err-check_cells-clause-reads
returns-in_err-check_cells-clause-reads c =
    let p = err_from_is_err_and c.from_residual-in_err-check_cells.result c.from_residual-in_err-check_cells.ensures.1 in
    rw (p.1, p.2)
    (metadata_refused c.in_err-check_cells.field-0.0 (take (c.args.at + c.args.size) c.args.bytes.now) c.args.at (view_range c.in_ok-tables.tables) (view_streams c.in_ok-tables.streams) c.heaps_in-heaps.result c.in_ok-layout.layout _ c.in_ok-tables.ensures.reads refl c.in_ok-layout.ensures.reads c.heaps_in-heaps.ensures c.in_err-check_cells.ensures.reads)

pub invariant_of-result : goal.invariant_of-result
invariant_of-result c = laid_out _ c.in_ok-tables.tables.start c.in_ok-layout.layout c.in_ok-layout.ensures.reads c.in_ok-layout.ensures.shapes

pub returns-clause-reads : goal.returns-clause-reads
returns-clause-reads c =
    metadata_read (take (c.args.at + c.args.size) c.args.bytes.now) c.args.at (view_range c.in_ok-tables.tables) (view_streams c.in_ok-tables.streams) c.heaps_in-heaps.result c.in_ok-layout.layout _ c.in_ok-tables.ensures.reads refl c.in_ok-layout.ensures.reads c.heaps_in-heaps.ensures c.in_ok-check_cells.ensures.reads
