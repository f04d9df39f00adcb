-- The parts of an image, on both sides.
use Rattle.std.specs.Prelude.{◌≡◌, map}
use Rattle.bound_base.specs.Image as image
use Rattle.byte_view.specs.Parts.{reading_order}

-- each part that an error names has the place that the definitions give it
abbrev pub PartsHaveTheirPlaces : Type 0
PartsHaveTheirPlaces = map (λ row. image.part_place row.0) image.parts ≡ reading_order
