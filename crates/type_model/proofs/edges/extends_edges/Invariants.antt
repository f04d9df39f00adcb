use Rattle.std.proofs.Common.{◌≡◌, ◌-◌, ℕ}
use Rattle.std.specs.List.{range_with_len, flat_map}
use Rattle.type_model.specs.Part.{edge, base_def}
use Rattle.type_model.proofs.edges.extends_edges.Given as goal

abbrev pub invariant-loop-t : goal.invariant-loop-t
invariant-loop-t l = l.edges.items ≡ flat_map (λ (t : ℕ). edge t (base_def l.types t)) (range_with_len 1 (l.t - 1))
