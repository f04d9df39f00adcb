use Rattle.std.proofs.Common.{◌≡◌, ◌≤◌, length, drop}
use Rattle.type_model.specs.NameChains.{chain_name}
use Rattle.type_model.proofs.model.Types.nested_name.Given as goal

abbrev pub invariant-loop-left : goal.invariant-loop-left
invariant-loop-left l = record {
  within : l.left ≤ length l.chain.items;
  named : l.name ≡ chain_name l.self (drop l.left l.chain.items);
}

abbrev pub decreases-loop-left : goal.decreases-loop-left
decreases-loop-left l = l.left
