use Rattle.image_kit.specs.AssemblyFile.{count_bytes}
use Rattle.image_kit.proofs.PieceLists.{pieces_grown}
use Rattle.image_kit.proofs.PlanPieces.{pieces_start}
use Rattle.image_kit.proofs.table_stream.put_row_counts.Goals as goal

pub loop-table-init : goal.loop-table-init
loop-table-init c = pieces_start c.args.out.now (count_bytes c.args.rows.now)

pub loop-table-preserved : goal.loop-table-preserved
loop-table-preserved c = pieces_grown c.args.out.now c.loop-table.out c.put_row_count.new.out (count_bytes c.args.rows.now) c.loop-table.table c.loop-table.invariant c.in_ok-put_row_count.ensures
