use Rattle.std.proofs.Common.{◌<◌, length, ap, arith, length-set}
use Rattle.meta_tables.proofs.RowCells.{cells_more}
use Rattle.image_kit.specs.AssemblyFile.{rows_among}
use Rattle.image_kit.proofs.PlanPieces.{few_at}
use Rattle.image_kit.proofs.plan_tables.counts_of.Goals as goal

pub overflow_cast-counts : goal.overflow_cast-counts
overflow_cast-counts c =
    let few = few_at c.args.tables.now c.loop-table.table c.requires c.loop-table-test.true in
    omega (arith, few, ap length c.rows_of.ensures)

pub loop-table-preserved : goal.loop-table-preserved
loop-table-preserved c =
    let within : c.loop-table.table < length c.loop-table.counts = omega (arith, c.loop-table.invariant.len) in
    record {
      counts = cells_more (λ table. length (rows_among c.args.tables.now table)) c.loop-table.counts c.loop-table.table _ within c.loop-table.invariant.counts (ap length c.rows_of.ensures);
      len = rw length-set c.loop-table.invariant.len;
    }
