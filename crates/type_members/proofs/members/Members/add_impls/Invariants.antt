use Rattle.std.proofs.Common.{◌≡◌, ◌≤◌, length, drop, reverse}
use Rattle.std.specs.Prelude.{filter, fold, slice_index, ◌==◌}
use Rattle.type_members.specs.Chosen.{with_impl}
use Rattle.type_members.specs.View.{view_slots}
use Rattle.type_members.proofs.members.Members.add_impls.Given as goal

abbrev pub invariant-loop-left : goal.invariant-loop-left
invariant-loop-left l = record {
  added : view_slots l.slots.items ≡ fold (with_impl l.self) (view_slots l.fn.slots.items)
      (reverse (filter (λ numbers. slice_index numbers 0 == l.id.base) (drop l.left l.rows)));
  within : l.left ≤ length l.rows;
}

abbrev pub decreases-loop-left : goal.decreases-loop-left
decreases-loop-left l = l.left
