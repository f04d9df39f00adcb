use Rattle.std.proofs.Common.{ℕ, ◌<◌, get_or}
use Rattle.std.specs.List.{Contains}
use Rattle.image_kit.specs.declared.library_plan.NamedPlace.{NamedPlace}
use Rattle.image_kit.proofs.library_plan.names_have_no_zero.Given as goal

abbrev pub invariant-loop-place : goal.invariant-loop-place
invariant-loop-place l = (k : ℕ) (d : NamedPlace) → k < l.place-index → ¬ Contains (get_or l.names k d).name 0
