use Rattle.std.proofs.Common.{◌≡◌, None, replicate}
use Rattle.stub_maker.proofs.learned.no_outlines.Given as goal

abbrev pub invariant-loop : goal.invariant-loop
invariant-loop l = l.outlines ≡ replicate l.counter None
