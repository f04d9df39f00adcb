use Rattle.std.proofs.Common.{◌≡◌, ◌++◌}
use Rattle.image_kit.specs.AssemblyFile.{pieces, count_bytes}
use Rattle.image_kit.proofs.table_stream.put_row_counts.Given as goal

abbrev pub invariant-loop-table : goal.invariant-loop-table
invariant-loop-table l = l.out ≡ l.fn.out ++ pieces (count_bytes l.rows) l.table
