use Rattle.std.proofs.Common.{◌≡◌, ◌++◌, All, map, drop}
use Rattle.std.specs.Option.{option_map}
use Rattle.native_layout.specs.Outlines.{IsSound, outline}
use Rattle.stub_maker.specs.Facts.{all_some, field_shape}
use Rattle.stub_maker.specs.Learned.{known_so_far}
use Rattle.stub_maker.proofs.learning.field_outlines.Given as goal

abbrev pub invariant-loop-field : goal.invariant-loop-field
invariant-loop-field l = record {
  value : option_map (map outline) (all_some (map (field_shape (known_so_far l.known)) l.fields))
      ≡ option_map (λ shapes. l.outlines ++ map outline shapes) (all_some (map (field_shape (known_so_far l.known)) (drop l.field-index l.fields)));
  sound : All IsSound l.outlines;
}
