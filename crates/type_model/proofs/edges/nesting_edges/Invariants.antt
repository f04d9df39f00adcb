use Rattle.std.proofs.Common.{◌≡◌, ◌-◌, ℕ}
use Rattle.std.specs.List.{range_with_len, flat_map}
use Rattle.type_model.specs.Part.{edge, encloser_of}
use Rattle.type_model.proofs.edges.nesting_edges.Given as goal

abbrev pub invariant-loop-t : goal.invariant-loop-t
invariant-loop-t l = l.edges.items ≡ flat_map (λ (t : ℕ). edge t (encloser_of l.types t)) (range_with_len 1 (l.t - 1))
