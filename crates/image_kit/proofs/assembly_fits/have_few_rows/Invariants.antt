use Rattle.std.proofs.Common.{◌≡◌, true}
use Rattle.image_kit.specs.AssemblyReads.{all_below, has_few_rows}
use Rattle.image_kit.proofs.assembly_fits.have_few_rows.Given as goal

abbrev pub invariant-loop-table : goal.invariant-loop-table
invariant-loop-table l = all_below (has_few_rows l.p.tables) l.table ≡ true
