use Rattle.std.proofs.Common.{List, ℕ, sym, subst, arith}
use Rattle.type_model.specs.Pool.{IsShared}
use Rattle.std.specs.Prelude.{◌+◌, take}
use Rattle.type_model.proofs.Pooling.{row_shared}
use Rattle.type_model.proofs.pool.share_offsets.Goals as goal

pub loop-row-preserved : goal.loop-row-preserved
loop-row-preserved c = record {
  knows = c.in_ok-place.ensures.known;
  few = omega (arith, c.in_ok-place.ensures.few);
  shared = subst (λ (places : List ℕ). IsShared (take (c.loop-row.row-index + 1) c.args.rows.now) c.args.column places c.place_of.new.offsets)
      (sym c.in_ok-push.ensures.ok)
      (row_shared c.args.rows.now c.args.column c.loop-row.row-index c.loop-row.places c.loop-row.offsets c.place_of.new.offsets c.in_ok-place.place _
      c.loop-row-test.true c.in_ok-place.ensures.kept c.loop-row.invariant.shared c.in_ok-place.ensures.place);
}
