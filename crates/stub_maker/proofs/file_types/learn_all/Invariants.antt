use Rattle.std.proofs.Common.{◌≡◌}
use Rattle.stub_maker.specs.Learned.{room}
use Rattle.stub_maker.proofs.file_types.learn_all.Given as goal

abbrev pub invariant-loop-finding : goal.invariant-loop-finding
invariant-loop-finding l = l.learned.image ≡ l.initial.learned.image

abbrev pub decreases-loop-finding : goal.decreases-loop-finding
decreases-loop-finding l = room l.learned
