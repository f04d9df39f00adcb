use Rattle.std.proofs.Common.{◌≡◌, ◌<◌, ◌∙◌, ℕ, [], length, get_or, arith}
use Rattle.std.proofs.lemmas.List.{get_or_default}
use Rattle.type_model.proofs.RowsByNumber.{one_more_fits}
use Rattle.type_model.proofs.first_rows.counts_of.Goals as goal

pub overflow_add-index_mut : goal.overflow_add-index_mut
overflow_add-index_mut c =
    let value : ℕ = get_or (get_or c.args.rows.now c.loop-row.row-index []) c.args.column 0 in
    let small : value < length c.loop-row.counts.items = c.loop-row.invariant.small c.loop-row.row-index c.loop-row-test.true in
    let now : c.index_mut.result.now ≡ get_or c.loop-row.counts.items value 0 =
    c.index_mut.ensures.value ∙ get_or_default c.loop-row.counts.items value c.index_mut.result.now 0 small in
    omega (arith, one_more_fits c.args.column c.args.rows.now c.loop-row.row-index value c.loop-row.counts.items c.loop-row-test.true c.loop-row.invariant.counted)
