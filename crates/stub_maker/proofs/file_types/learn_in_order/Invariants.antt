use Rattle.std.proofs.Common.{◌≡◌}
use Rattle.stub_maker.proofs.file_types.learn_in_order.Given as goal

abbrev pub invariant-loop-need : goal.invariant-loop-need
invariant-loop-need l = l.learned.image ≡ l.initial.learned.image
