use Rattle.std.proofs.Common.{◌-◌, ◌+◌, ◌*◌, ◌^◌, ◌<◌, ◌≤◌, length, ℕ, get_or}
use Rattle.native_memory.specs.AddressSpace.{Block}
use Rattle.native_memory.proofs.Bisection.{FindsBelow}
use Rattle.native_memory.proofs.search.last_not_above.Given as goal

abbrev pub invariant-loop-low : goal.invariant-loop-low
invariant-loop-low g l = record {
  order : l.low ≤ l.high;
  within : l.high ≤ length l.blocks.items;
  found : FindsBelow l.blocks.items l.addr l.low l.found;
  above : (k : ℕ) (d : Block) → l.high ≤ k → k < length l.blocks.items → l.addr < (get_or l.blocks.items k d).base;
  count : l.fn.steps ≤ l.steps;
  halves : 2 ^ (l.steps - l.fn.steps) * (l.high - l.low) ≤ length l.blocks.items;
  read : l.high - l.low < length l.blocks.items → l.fn.steps < l.steps;
  cost : 2 ^ (l.steps - l.fn.steps) ≤ 2 * length l.blocks.items + 1;
}

-- proposed from the loop's first test
abbrev pub decreases-loop-low : goal.decreases-loop-low
decreases-loop-low g l = l.high - l.low
