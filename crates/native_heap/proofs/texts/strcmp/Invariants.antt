use Rattle.std.proofs.Common.{◌≡◌, ◌^◌, ◌-◌}
use Rattle.native_heap.specs.Texts.{text_order, readable_from}
use Rattle.native_heap.proofs.texts.strcmp.Given as goal

-- what is left decides
abbrev pub invariant-loop-x : goal.invariant-loop-x
invariant-loop-x l = text_order (readable_from l.memory.space l.left) (readable_from l.memory.space l.right) ≡ text_order (readable_from l.memory.space l.a) (readable_from l.memory.space l.b)

abbrev pub decreases-loop-x : goal.decreases-loop-x
decreases-loop-x l = 2 ^ 64 - l.left
