use Rattle.std.proofs.Common.{ℕ, List, sym, subst, arith}
use Rattle.type_model.specs.FirstRows.{TellsNotAbove}
use Rattle.type_model.proofs.RowsByNumber.{few_counted, counts_tell}
use Rattle.type_model.proofs.first_rows.counts_not_above.Goals as goal

pub added_up-requires : goal.added_up-requires
added_up-requires c = omega (arith, few_counted c.args.column c.args.rows.now c.in_ok-counts.counts.items c.in_ok-counts.ensures.counts)

pub returns : goal.returns
returns c =
    subst (λ (sums : List ℕ). TellsNotAbove c.args.rows.now c.args.column sums) (sym c.from_vec.ensures)
    (counts_tell c.args.column c.args.rows.now c.in_ok-counts.counts.items c.added_up.result.items c.in_ok-counts.ensures.counts c.in_ok-counts.ensures.highest
    c.added_up.ensures.size c.added_up.ensures.sums)
