use Rattle.std.proofs.Common.{◌≡◌, map, take}
use Rattle.flat_types.specs.Flat.{written_offset}
use Rattle.flat_types.proofs.structs.offsets_of.Given as goal

abbrev pub invariant-loop-field : goal.invariant-loop-field
invariant-loop-field l = l.offsets ≡ map (written_offset l.types) (take l.field-index l.fields)
