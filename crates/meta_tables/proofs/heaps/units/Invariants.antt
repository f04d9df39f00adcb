use Rattle.std.proofs.Common.{◌≡◌, ◌*◌, map}
use Rattle.std.specs.List.{range_with_len}
use Rattle.byte_view.specs.Numbers.{le}
use Rattle.meta_tables.proofs.heaps.units.Given as goal

abbrev pub invariant-loop-at : goal.invariant-loop-at
invariant-loop-at l = l.units ≡ map (λ k. le l.bytes (2 * k) 2) (range_with_len 0 l.at)
