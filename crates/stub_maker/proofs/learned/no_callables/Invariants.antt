use Rattle.std.proofs.Common.{◌≡◌, false, replicate}
use Rattle.stub_maker.proofs.learned.no_callables.Given as goal

abbrev pub invariant-loop : goal.invariant-loop
invariant-loop l = l.callable ≡ replicate l.counter false
