use Rattle.sig_reader.specs.Reading.{local_in}
use Rattle.sig_reader.proofs.Lists.{many_next}
use Rattle.sig_reader.proofs.reader.so_many_locals.Goals as goal

pub loop-preserved : goal.loop-preserved
loop-preserved c =
    rw c.in_ok-push.ensures.ok (many_next local_in c.args.count c.loop.counter c.loop.all c.loop.rest.now _ c.loop.invariant c.loop-test.true c.in_ok-t.t c.in_ok-t.after.now c.in_ok-t.ensures)
