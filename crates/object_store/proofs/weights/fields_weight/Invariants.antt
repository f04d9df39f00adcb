-- the fields so far, as far as 64 bits hold their sum
use Rattle.std.proofs.Common.{◌≡◌, take}
use Rattle.std.specs.Prelude.{sum_by}
use Rattle.object_store.specs.Weights.{size_of, capped}
use Rattle.object_store.proofs.weights.fields_weight.Given as goal

abbrev pub invariant-loop-field : goal.invariant-loop-field
invariant-loop-field l = l.total ≡ capped (sum_by size_of (take l.field-index l.fields))
