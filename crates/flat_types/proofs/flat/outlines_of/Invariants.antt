use Rattle.std.proofs.Common.{◌≡◌, map, take}
use Rattle.flat_types.specs.declared.flat.Flat.{Flat}
use Rattle.flat_types.proofs.flat.outlines_of.Given as goal

abbrev pub invariant-loop-field : goal.invariant-loop-field
invariant-loop-field l = l.outlines ≡ map (λ (f : Flat). f.outline) (take l.field-index l.fields)
