use Rattle.std.proofs.Common.{◌≡◌, ◌≤◌, ◌*◌, take}
use Rattle.std.specs.List.{sum_by}
use Rattle.meta_tables.specs.View.{bytes_of}
use Rattle.meta_tables.proofs.layout.total.Given as goal

abbrev pub invariant-loop-width : goal.invariant-loop-width
invariant-loop-width l = (l.total ≡ sum_by bytes_of (take l.width-index l.widths)) × (l.total ≤ 4 * l.width-index)
