use Rattle.std.proofs.Common.{ℕ, ◌+◌, ◌*◌, Bool, List, Result, arith}
use Rattle.std.proofs.lemmas.Result.{err_from_is_err_and}
use Rattle.byte_view.specs.Reading.{must}
use Rattle.byte_view.proofs.Reading.{each_none, each_more}
use Rattle.body_reader.specs.Instructions.{switch_target_at}
use Rattle.body_reader.specs.Code.{is_target, check_switch}
use Rattle.body_reader.specs.Refusals.{refusal}
use Rattle.body_reader.proofs.Places.{each_refused, refused_must, passed_must}
use Rattle.body_reader.proofs.targets.check_switch.Goals as goal

abbrev tested : List ℕ → List Bool → ℕ → ℕ → ℕ → Result ℕ ℕ
tested code starts at count k = must (is_target starts (switch_target_at code count at k)) (at + 4 * k)

pub loop-k-init : goal.loop-k-init
loop-k-init c = each_none (tested c.args.code.now c.args.starts.now c.args.at c.args.count)

pub returns-in_err-must : goal.returns-in_err-must
unfolding check_switch
returns-in_err-must c =
    let p = err_from_is_err_and c.from_residual.result c.from_residual.ensures.1 in
    let here = rw (c.is_target.ensures, c.switch_target_at-target.ensures.target) at c.in_err-must.ensures in
    rw (p.1, p.2) (each_refused (refusal c.in_err-must.field-0.0) c.args.start (tested c.args.code.now c.args.starts.now c.args.at c.args.count) c.loop-k.k c.args.count 0 c.loop-k.invariant c.loop-k-test.true (refused_must (refusal c.in_err-must.field-0.0) c.args.start _ (c.args.at + 4 * c.loop-k.k) (c.args.start + c.args.at + 4 * c.loop-k.k) (omega arith) here))

pub loop-k-preserved : goal.loop-k-preserved
loop-k-preserved c =
    let here = rw (c.is_target.ensures, c.switch_target_at-target.ensures.target) at c.in_ok-must.ensures in
    each_more (tested c.args.code.now c.args.starts.now c.args.at c.args.count) c.loop-k.k 0 0 c.loop-k.invariant (passed_must _ (c.args.at + 4 * c.loop-k.k) _ here)
