use Rattle.std.proofs.Common.{◌≡◌, ◌++◌}
use Rattle.image_kit.specs.AssemblyFile.{pieces, row_bytes, widths, written_row}
use Rattle.image_kit.proofs.table_stream.put_table.Given as goal

abbrev pub invariant-loop-at : goal.invariant-loop-at
invariant-loop-at l = l.out ≡ l.fn.out ++ pieces (λ row. row_bytes (widths l.p l.table) (written_row l.p l.table row)) l.at
