use Rattle.std.proofs.Common.{arith}
use Rattle.native_memory.proofs.Bisection.{found_last, above_all, halved, within_twice}
use Rattle.native_memory.proofs.search.last_not_above.Goals as goal

pub returns-clause-last : goal.returns-clause-last
returns-clause-last g c =
    found_last _ _ _ _ _ c.loop-low.invariant.found (omega arith) c.loop-low.invariant.above

pub loop-low-preserved-then-it-addr : goal.loop-low-preserved-then-it-addr
loop-low-preserved-then-it-addr g c =
    let at = c.loop-low.invariant in
    record {
      order = omega arith;
      within = omega arith;
      found = (c.probe-it.ensures.entry, c.if-it-addr.true, omega arith);
      above = at.above;
      count = omega arith;
      read = λ less. omega arith;
      halves = halved _ _ _ _ _ _ at.count c.probe-it.ensures.step at.halves (omega arith);
      cost = within_twice _ _ _ _ _ at.count c.probe-it.ensures.step at.halves (omega arith);
    }

pub loop-low-preserved : goal.loop-low-preserved
loop-low-preserved g c =
    let at = c.loop-low.invariant in
    let probed = c.probe-it.ensures in
    record {
      order = omega arith;
      within = omega arith;
      found = at.found;
      above = λ k d later within. above_all _ _ _ _ c.requires probed.entry probed.place c.if-it-addr.false k d later within;
      count = omega arith;
      read = λ less. omega arith;
      halves = halved _ _ _ _ _ _ at.count probed.step at.halves (omega arith);
      cost = within_twice _ _ _ _ _ at.count probed.step at.halves (omega arith);
    }
