-- What was found within the most levels is the outline of a type.
use Rattle.std.proofs.Common.{◌≡◌, ℕ, Some, None, sym, ap, ◌∙◌}
use Rattle.std.specs.Option.{option_map}
use Rattle.native_layout.specs.declared.shapes.Shape as shape
use Rattle.native_layout.specs.declared.shapes.StructShape.{StructShape}
use Rattle.native_layout.specs.Outlines.{outline}
use Rattle.type_model.specs.Module.{Module}
use Rattle.flat_types.specs.declared.flat.Flat.{Flat}
use Rattle.flat_types.specs.Flat.{flat_shape, most_levels}
use Rattle.flat_types.specs.Answers.{IsFlat, TypeAnswers, flat_outline}
use Rattle.flat_types.proofs.Levels.{same_deeper}

pub outline_found : (m : Module) (t : ℕ) (f : Flat) → TypeAnswers m most_levels t (Some f) → Some f.outline ≡ flat_outline m t
unfolding flat_outline flat_shape
outline_found m t f found =
    let is : IsFlat m t f = found.0 in
    ap Some is.outline_is
    ∙ sym (ap (option_map (λ (s : StructShape). outline (shape.Struct s))) (same_deeper m f.levels most_levels t found.1 is.kept is.within))

pub outline_missed : (m : Module) (t : ℕ) → TypeAnswers m most_levels t None → None ≡ flat_outline m t
unfolding flat_outline flat_shape
outline_missed m t none = sym (ap (option_map (λ (s : StructShape). outline (shape.Struct s))) none)
