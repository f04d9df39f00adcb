use Rattle.std.proofs.Common.{◌≡◌, ◌++◌, map}
use Rattle.std.specs.Prelude.{slice_index}
use Rattle.byteorder.specs.Endian.{little_bytes}
use Rattle.meta_tables.specs.View.{bytes_of}
use Rattle.image_kit.specs.AssemblyFile.{pieces}
use Rattle.image_kit.proofs.table_stream.put_row.Given as goal

abbrev pub invariant-loop-column : goal.invariant-loop-column
invariant-loop-column l = l.out ≡ l.fn.out ++ pieces (λ column. little_bytes (slice_index (map bytes_of l.widths) column) (slice_index l.row column)) l.column
