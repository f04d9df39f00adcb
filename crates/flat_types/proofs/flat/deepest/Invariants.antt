use Rattle.std.proofs.Common.{◌≡◌, max, drop}
use Rattle.flat_types.specs.Answers.{deepest}
use Rattle.flat_types.proofs.flat.deepest.Given as goal

abbrev pub invariant-loop-field : goal.invariant-loop-field
invariant-loop-field l = max l.deepest (deepest (drop l.field-index l.fields)) ≡ deepest l.fields
