use Rattle.image_kit.specs.AssemblyFile.{table_bytes}
use Rattle.image_kit.proofs.PieceLists.{pieces_grown}
use Rattle.image_kit.proofs.PlanPieces.{pieces_start}
use Rattle.image_kit.proofs.table_stream.put_tables.Goals as goal

pub loop-table-init : goal.loop-table-init
loop-table-init c = pieces_start c.args.out.now (table_bytes c.args.p.now)

pub loop-table-preserved : goal.loop-table-preserved
loop-table-preserved c = pieces_grown c.args.out.now c.loop-table.out c.put_table.new.out (table_bytes c.args.p.now) c.loop-table.table c.loop-table.invariant c.in_ok-put_table.ensures
