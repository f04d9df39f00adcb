use Rattle.std.proofs.Common.{◌≡◌, ◌^◌, true, map}
use Rattle.std.specs.Prelude.{nat_lt, slice_index}
use Rattle.meta_tables.specs.View.{bytes_of}
use Rattle.image_kit.specs.AssemblyReads.{all_below}
use Rattle.image_kit.proofs.assembly_fits.row_fits.Given as goal

abbrev pub invariant-loop-column : goal.invariant-loop-column
invariant-loop-column l = all_below (λ column. nat_lt (slice_index l.row column) (256 ^ slice_index (map bytes_of l.widths) column)) l.column ≡ true
