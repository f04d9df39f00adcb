use Rattle.std.proofs.Common.{sym, ◌∙◌}
use Rattle.std.proofs.lemmas.Result.{err_from_is_err_and}
use Rattle.sig_reader.proofs.ModifierReaders.{prefix_next, prefix_none, prefix_shorter, prefix_refused}
use Rattle.sig_reader.proofs.prefixes.prefixes.Goals as goal

pub returns-in_err-pins : goal.returns-in_err-pins
returns-in_err-pins c =
    let p = err_from_is_err_and c.from_residual.result c.from_residual.ensures.1 in
    rw (p.1, p.2) (prefix_refused c.in_err-pins.field-0.0 c.args.constrained c.loop-pins.pinned c.loop-pins.rest.now _ c.loop-pins.invariant c.in_err-pins.ensures)

pub loop-pins-smaller : goal.loop-pins-smaller
loop-pins-smaller c = prefix_shorter c.args.constrained c.loop-pins.pinned c.loop-pins.rest.now c.in-Some.pins c.in-Some.after.now (rw c.in-Some.is at c.in_ok-pins.ensures)

pub loop-pins-preserved : goal.loop-pins-preserved
loop-pins-preserved c =
    sym (prefix_next c.args.constrained c.loop-pins.pinned c.loop-pins.rest.now c.in-Some.pins c.in-Some.after.now (rw c.in-Some.is at c.in_ok-pins.ensures))
    ∙ c.loop-pins.invariant

pub returns : goal.returns
returns c =
    sym c.loop-pins.invariant
    ∙ prefix_none c.args.constrained c.loop-pins.pinned c.loop-pins.rest.now (rw c.in_default.is at c.in_ok-pins.ensures)
