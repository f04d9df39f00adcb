use Rattle.std.proofs.Common.{◌≡◌, Ok}
use Rattle.byte_view.specs.Reading.{listed}
use Rattle.byte_view.specs.Layout.{row_count}
use Rattle.meta_tables.proofs.layout.row_counts.Given as goal

abbrev pub invariant-loop-table : goal.invariant-loop-table
invariant-loop-table l = listed (row_count l.image l.start l.valid) l.table ≡ Ok l.rows.items
