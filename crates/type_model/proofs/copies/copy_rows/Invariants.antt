use Rattle.std.proofs.Common.{◌≡◌, take}
use Rattle.byte_view.specs.Metadata.{table_of}
use Rattle.type_model.proofs.copies.copy_rows.Given as goal

abbrev pub invariant-loop-n : goal.invariant-loop-n
invariant-loop-n l = l.rows ≡ take l.n (table_of l.meta l.table)
