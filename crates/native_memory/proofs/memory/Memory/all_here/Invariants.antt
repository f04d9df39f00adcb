use Rattle.std.proofs.Common.{◌≡◌, drop}
use Rattle.std.specs.List.{list_all}
use Rattle.native_memory.specs.InPlace.{is_here}
use Rattle.native_memory.proofs.memory.Memory.all_here.Given as goal

-- what is left decides
abbrev pub invariant-loop-at : goal.invariant-loop-at
invariant-loop-at l = list_all is_here (drop l.at l.self-inside.blocks.items) ≡ list_all is_here l.self-inside.blocks.items
