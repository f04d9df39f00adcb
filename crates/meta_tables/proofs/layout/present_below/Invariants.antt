use Rattle.std.proofs.Common.{◌≡◌, ◌≤◌}
use Rattle.byte_view.specs.Layout.{present_below}
use Rattle.meta_tables.proofs.layout.present_below.Given as goal

abbrev pub invariant-loop-below : goal.invariant-loop-below
invariant-loop-below l = (l.count ≡ present_below l.valid l.below) × (l.count ≤ l.below)
