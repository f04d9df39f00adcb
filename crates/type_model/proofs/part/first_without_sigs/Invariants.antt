use Rattle.std.proofs.Common.{◌≡◌, ◌≤◌, ◌<◌, ℕ, not, false}
use Rattle.type_model.specs.Part.{has_field_sigs}
use Rattle.type_model.proofs.part.first_without_sigs.Given as goal

abbrev pub invariant-loop-t : goal.invariant-loop-t
invariant-loop-t l = (k : ℕ) → 1 ≤ k → k < l.t → not (has_field_sigs l.types k) ≡ false
