use Rattle.std.proofs.Common.{◌≤◌, ◌+◌, ◌*◌, All, take}
use Rattle.flat_types.specs.declared.flat.Flat.{Flat}
use Rattle.flat_types.specs.Answers.{AreFlat, AreFound}
use Rattle.flat_types.proofs.flat.FlatTypes.+finding.Given as goal

abbrev pub decreases-find : goal.decreases-find
decreases-find l = 4 * l.left

abbrev pub decreases-find_field : goal.decreases-find_field
decreases-find_field l = 4 * l.left + 1

abbrev pub decreases-find_fields : goal.decreases-find_fields
decreases-find_fields l = 4 * l.left + 2

abbrev pub decreases-find_struct : goal.decreases-find_struct
decreases-find_struct l = 4 * l.left + 3

abbrev pub invariant-find_fields-loop-field : goal.invariant-find_fields-loop-field
invariant-find_fields-loop-field l = record {
  flats : AreFlat l.types (take l.field-index l.fields) l.flats;
  few : All (λ (f : Flat). f.levels ≤ l.left) l.flats;
  known : AreFound l.types l.self;
}
