use Rattle.std.proofs.Common.{◌≡◌, true, map, slice_get}
use Rattle.std.specs.Prelude.{slice_index}
use Rattle.meta_tables.specs.View.{view_column}
use Rattle.meta_tables.specs.Cells.{sizes_of, sound_in}
use Rattle.image_kit.specs.AssemblyReads.{all_below}
use Rattle.image_kit.proofs.assembly_fits.row_is_sound.Given as goal

abbrev pub invariant-loop-column : goal.invariant-loop-column
invariant-loop-column l = all_below (λ column. sound_in (sizes_of l.heaps l.counts) (slice_get (map view_column l.columns) column) (slice_index l.before column) (slice_index l.row column)) l.column ≡ true
