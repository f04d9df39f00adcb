use Rattle.std.proofs.Common.{◌≡◌, ℕ, ◌+◌, ◌-◌, ◌<◌, List, length, arith}
use Rattle.std.specs.Prelude.{slice_index, ◌==◌}
use Rattle.type_members.specs.Chosen.{with_impl}
use Rattle.type_members.specs.View.{view_slots}
use Rattle.type_members.proofs.SlotPlaces.{back_more, back_none}
use Rattle.type_members.proofs.members.Members.add_impls.Goals as goal

pub loop-left-init : goal.loop-left-init
loop-left-init c = record {
  added = back_none (with_impl c.args.self.now) (λ (numbers : List ℕ). slice_index numbers 0 == c.args.id.base) (view_slots c.args.slots.now.items)
      c.rows-rows.result.now (length c.rows-rows.result.now) (omega arith);
  within = omega arith;
}

pub loop-left-preserved : goal.loop-left-preserved
loop-left-preserved c =
    let fewer : c.loop-left.left - 1 < length c.rows-rows.result.now = omega (arith, c.loop-left.invariant.within) in
    let next : c.loop-left.left ≡ c.loop-left.left - 1 + 1 = omega arith in
    record {
      added = back_more (with_impl c.args.self.now) (λ (numbers : List ℕ). slice_index numbers 0 == c.args.id.base)
          (view_slots c.args.slots.now.items) (view_slots c.loop-left.slots.items) (view_slots c.add_row.new.slots.items)
          c.rows-rows.result.now (c.loop-left.left - 1) c.loop-left.left _ next fewer c.loop-left.invariant.added c.add_row.ensures;
      within = omega (arith, fewer);
    }
