use Rattle.std.proofs.Common.{ℕ, ◌<◌, ◌+◌}
use Rattle.stub_maker.specs.Learned.{IsClosedAt}
use Rattle.stub_maker.proofs.learned.Learned.first_finding.Given as goal

abbrev pub invariant-loop-t : goal.invariant-loop-t
invariant-loop-t l = (k : ℕ) → k < l.t → IsClosedAt l.self (k + 1)
