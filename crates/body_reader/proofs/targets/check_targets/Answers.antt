use Rattle.std.proofs.Common.{length}
use Rattle.std.proofs.lemmas.Result.{err_from_is_err_and}
use Rattle.byte_view.proofs.Reading.{each_none, each_more}
use Rattle.body_reader.specs.Code.{check_at, targets_in}
use Rattle.body_reader.specs.Refusals.{refusal}
use Rattle.body_reader.proofs.Places.{each_refused, from_start_ok}
use Rattle.body_reader.proofs.targets.check_targets.Goals as goal

pub loop-at-init : goal.loop-at-init
loop-at-init c = each_none (check_at c.args.code.now c.args.starts.now)

pub returns-in_err-check_offset : goal.returns-in_err-check_offset
unfolding targets_in
returns-in_err-check_offset c =
    let p = err_from_is_err_and c.from_residual.result c.from_residual.ensures.1 in
    rw (p.1, p.2) (each_refused (refusal c.in_err-check_offset.field-0.0) c.args.start (check_at c.args.code.now c.args.starts.now) c.loop-at.at (length c.args.code.now) 0 c.loop-at.invariant c.loop-at-test.true c.in_err-check_offset.ensures)

pub loop-at-preserved : goal.loop-at-preserved
loop-at-preserved c =
    each_more (check_at c.args.code.now c.args.starts.now) c.loop-at.at 0 0 c.loop-at.invariant (from_start_ok c.args.start (check_at c.args.code.now c.args.starts.now c.loop-at.at) 0 c.in_ok-check_offset.ensures)
