use Rattle.std.proofs.Common.{◌≡◌, ◌≤◌, ◌-◌, ◌++◌, ℕ}
use Rattle.std.specs.List.{range_with_len, flat_map}
use Rattle.type_model.specs.Part.{edge}
use Rattle.type_model.specs.Sound.{held_if_own}
use Rattle.type_model.proofs.edges.hold_fields.Given as goal

abbrev pub invariant-loop-f : goal.invariant-loop-f
invariant-loop-f l = record {
  items : l.edges.items ≡ l.initial.edges.items ++ flat_map (λ (f : ℕ). edge l.from (held_if_own l.types f)) (range_with_len l.first (l.f - l.first));
  within : l.f - l.first ≤ l.end - l.first;
}
