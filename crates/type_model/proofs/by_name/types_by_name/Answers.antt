use Rattle.std.proofs.Common.{ap}
use Rattle.std.specs.Ordering.{is_lt}
use Rattle.std.proofs.lemmas.Fn.{always_returns_same}
use Rattle.type_model.specs.ByName.{precedes}
use Rattle.type_model.proofs.TypeOrder.{order_is, names_rank}
use Rattle.type_model.proofs.by_name.types_by_name.Goals as goal

pub returns : goal.returns
returns c =
    rw c.from_vec.ensures
    (order_is c.args.image.now c.sort_by.new.self.items
    (rw (c.in_ok-types.ensures, c.row_count.ensures) at c.in_ok-sort_by.ensures.permutation)
    (c.in_ok-sort_by.ensures.sorted (precedes c.args.image.now) (names_rank c.args.image.now)
    (always_returns_same _ _ _ (λ a r f h. (ap is_lt h.met.1, λ i. record { 0 = h.met.0 i }))))
    (rw (c.in_ok-types.ensures, c.row_count.ensures) at
    (c.in_ok-sort_by.ensures.stable (precedes c.args.image.now) (names_rank c.args.image.now)
    (always_returns_same _ _ _ (λ a r f h. (ap is_lt h.met.1, λ i. record { 0 = h.met.0 i }))))))
