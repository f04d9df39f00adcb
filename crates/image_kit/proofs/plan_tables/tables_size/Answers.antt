use Rattle.std.proofs.Common.{arith}
use Rattle.image_kit.proofs.PlanPieces.{first_size}
use Rattle.image_kit.proofs.plan_tables.tables_size.Goals as goal

pub loop-table-init : goal.loop-table-init
loop-table-init c = record {
  size = first_size c.args.sizes.now.heap_sizes c.args.sizes.now.rows;
  bound = omega arith;
}
