use Rattle.meta_tables.proofs.Checks.{columns_short}
use Rattle.image_kit.proofs.assembly_fits.table_is_sound.Goals as goal

pub rows_are_sound-requires : goal.rows_are_sound-requires
rows_are_sound-requires c = columns_short c.columns.result.now c.args.table c.columns.ensures
