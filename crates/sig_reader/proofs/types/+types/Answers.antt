use Rattle.std.proofs.lemmas.Result.{err_from_is_err_and}
use Rattle.sig_reader.specs.Reading.{type_in}
use Rattle.sig_reader.proofs.Lists.{many_next, params_next_at, params_last, params_refused_at}
use Rattle.sig_reader.proofs.TypeReaders.{no_levels}
use Rattle.sig_reader.proofs.types.+types.Goals as goal

pub arguments-loop-preserved : goal.arguments-loop-preserved
arguments-loop-preserved t c =
    rw c.in_ok-push.ensures.ok (many_next (type_in c.args.levels) c.args.count c.loop.counter c.loop.all c.loop.rest.now _ c.loop.invariant c.loop-test.true c.in_ok-t.t c.in_ok-t.after.now c.in_ok-t.ensures)

pub params-returns-in_err-t : goal.params-returns-in_err-t
params-returns-in_err-t t c =
    let p = err_from_is_err_and c.from_residual.result c.from_residual.ensures.1 in
    rw (p.1, p.2) (params_refused_at (type_in c.args.levels) c.in_err-t.field-0.0 c.loop.allowed c.args.count c.loop.counter c.loop.all c.loop.rest.now _ c.loop.invariant c.loop-test.true c.sentinel-after.result.0 c.sentinel-after.result.1.now c.sentinel-after.ensures c.in_err-t.ensures)

pub params-loop-preserved : goal.params-loop-preserved
params-loop-preserved t c =
    rw c.in_ok-push.ensures.ok (params_next_at (type_in c.args.levels) c.loop.allowed c.args.count c.loop.counter c.loop.all c.loop.rest.now _ c.loop.invariant c.loop-test.true c.sentinel-after.result.0 c.sentinel-after.result.1.now c.sentinel-after.ensures c.in_ok-t.t c.in_ok-t.next.now c.in_ok-t.ensures)

pub params-returns : goal.params-returns
params-returns t c = params_last (type_in c.args.levels) c.loop.allowed c.args.count c.loop.counter c.loop.all c.loop.rest.now _ c.loop.invariant c.loop-test.false

pub read_type-returns-then-levels-eq0 : goal.read_type-returns-then-levels-eq0
read_type-returns-then-levels-eq0 t c = no_levels c.args.levels c.args.b.now c.if-levels-eq0.true
