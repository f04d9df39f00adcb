use Rattle.std.proofs.Common.{ap}
use Rattle.std.specs.Ordering.{is_lt}
use Rattle.std.proofs.lemmas.Fn.{always_returns_same}
use Rattle.elf_binder.specs.Index.{precedes}
use Rattle.elf_binder.proofs.Indexing.{index_is, names_rank}
use Rattle.elf_binder.proofs.index.index_of.Goals as goal

pub returns : goal.returns
returns c =
    rw c.from_vec.ensures
    (index_is c.args.only_callable c.args.exports.now c.sort_by.new.self.items
    (rw c.in_ok-indexes.ensures at c.in_ok-sort_by.ensures.permutation)
    (c.in_ok-sort_by.ensures.sorted (precedes c.args.exports.now) (names_rank c.args.exports.now)
    (always_returns_same _ _ _ (λ a r f h. (ap is_lt h.met.1, λ i. record { 0 = h.met.0 i }))))
    (rw c.in_ok-indexes.ensures at
    (c.in_ok-sort_by.ensures.stable (precedes c.args.exports.now) (names_rank c.args.exports.now)
    (always_returns_same _ _ _ (λ a r f h. (ap is_lt h.met.1, λ i. record { 0 = h.met.0 i }))))))
