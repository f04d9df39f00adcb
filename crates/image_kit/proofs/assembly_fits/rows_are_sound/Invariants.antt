use Rattle.std.proofs.Common.{◌≡◌, true, [], map}
use Rattle.std.specs.Prelude.{slice_index_or}
use Rattle.meta_tables.specs.View.{view_column}
use Rattle.meta_tables.specs.Cells.{sizes_of}
use Rattle.image_kit.specs.AssemblyReads.{all_below, row_before, is_sound_row}
use Rattle.image_kit.proofs.assembly_fits.rows_are_sound.Given as goal

abbrev pub invariant-loop-at : goal.invariant-loop-at
invariant-loop-at l = all_below (λ row. is_sound_row (sizes_of l.heaps l.counts) (map view_column l.columns) (row_before l.rows row) (slice_index_or l.rows row [])) l.at ≡ true
