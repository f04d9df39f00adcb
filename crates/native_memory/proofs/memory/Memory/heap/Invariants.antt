use Rattle.std.proofs.Common.{◌≡◌, ◌+◌, drop}
use Rattle.std.specs.List.{count_by}
use Rattle.native_memory.specs.AddressSpace.{is_heap}
use Rattle.native_memory.proofs.memory.Memory.heap.Given as goal

-- the heap blocks counted so far, and those that are left
abbrev pub invariant-loop-at : goal.invariant-loop-at
invariant-loop-at l = l.count + count_by is_heap (drop l.at l.self-inside.blocks.items) ≡ count_by is_heap l.self-inside.blocks.items
