use Rattle.std.proofs.lemmas.Result.{err_from_is_err_and}
use Rattle.sig_reader.specs.Numbers.{any_number}
use Rattle.sig_reader.specs.Reading.{unsigned_in}
use Rattle.sig_reader.proofs.Lists.{many_first, many_next, many_last, many_refused}
use Rattle.sig_reader.proofs.types.sizes.Goals as goal

pub loop-init : goal.loop-init
loop-init c = rw c.new-all.ensures (many_first (unsigned_in any_number) c.args.count c.args.b.now)

pub returns-in_err-n : goal.returns-in_err-n
returns-in_err-n c =
    let p = err_from_is_err_and c.from_residual.result c.from_residual.ensures.1 in
    rw (p.1, p.2) (many_refused (unsigned_in any_number) c.in_err-n.field-0.0 c.args.count c.loop.counter c.loop.all c.loop.rest.now _ c.loop.invariant c.loop-test.true c.in_err-n.ensures)

pub loop-preserved : goal.loop-preserved
loop-preserved c =
    rw c.in_ok-push.ensures.ok (many_next (unsigned_in any_number) c.args.count c.loop.counter c.loop.all c.loop.rest.now _ c.loop.invariant c.loop-test.true c.in_ok-n.n c.in_ok-n.after.now c.in_ok-n.ensures)

pub returns : goal.returns
returns c = many_last (unsigned_in any_number) c.args.count c.loop.counter c.loop.all c.loop.rest.now _ c.loop.invariant c.loop-test.false
