use Rattle.std.proofs.Common.{◌≡◌, ◌++◌}
use Rattle.image_kit.specs.AssemblyFile.{pieces, table_bytes}
use Rattle.image_kit.proofs.table_stream.put_tables.Given as goal

abbrev pub invariant-loop-table : goal.invariant-loop-table
invariant-loop-table l = l.out ≡ l.fn.out ++ pieces (table_bytes l.p) l.table
