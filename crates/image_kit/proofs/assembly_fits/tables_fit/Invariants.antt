use Rattle.std.proofs.Common.{◌≡◌, true}
use Rattle.image_kit.specs.AssemblyReads.{all_below, fits_table}
use Rattle.image_kit.proofs.assembly_fits.tables_fit.Given as goal

abbrev pub invariant-loop-table : goal.invariant-loop-table
invariant-loop-table l = all_below (fits_table l.p) l.table ≡ true
