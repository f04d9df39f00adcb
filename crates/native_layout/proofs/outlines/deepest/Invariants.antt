use Rattle.std.proofs.Common.{◌≡◌, map, drop}
use Rattle.native_layout.specs.Struct.{greatest}
use Rattle.native_layout.proofs.outlines.deepest.Given as goal

abbrev pub invariant-loop-field : goal.invariant-loop-field
invariant-loop-field l =
    greatest 0 (map (λ o. o.nesting) l.fields) ≡ greatest l.deepest (map (λ o. o.nesting) (drop l.field-index l.fields))
