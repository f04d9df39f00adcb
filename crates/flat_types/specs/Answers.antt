-- What is found of value types one after another.
use Rattle.std.specs.Prelude.{◌≡◌, ◌≤◌, ◌<◌, ℕ, List, [], ◌∷◌, map, max, All, slice_index_or, Option, Some, None, option_map, ⊤}
use Rattle.native_layout.specs.declared.shapes.Shape as shape
use Rattle.native_layout.specs.declared.shapes.Shape.{Shape}
use Rattle.native_layout.specs.declared.shapes.StructShape.{StructShape}
use Rattle.native_layout.specs.declared.outlines.Outline.{Outline}
use Rattle.native_layout.specs.Outlines.{outline, IsSound}
use Rattle.type_model.specs.Module.{Module}
use Rattle.flat_types.specs.Flat.{all_some, flat_field, flat_shape, flat_within, most_levels}
use Rattle.flat_types.specs.declared.flat.Flat.{Flat}
use Rattle.flat_types.specs.declared.flat.Found.{Found}
use Rattle.flat_types.specs.declared.flat.Found.TheVariants as found

-- the outline of a value type that is kept as bytes, None for any other type
unfoldable pub flat_outline : Module → ℕ → Option Outline
flat_outline m t = option_map (λ s. outline (shape.Struct s)) (flat_shape m t)

-- A value type is kept as bytes, with this outline; so many structs stand in one another, and no fewer.
pub record IsFlat (m : Module) (t : ℕ) (f : Flat) : Type 0 where
  pub kept : StructShape
  pub within : flat_within f.levels m t ≡ Some kept
  pub outline_is : f.outline ≡ outline (shape.Struct kept)
  pub least : (n : ℕ) → n < f.levels → flat_within n m t ≡ None
  pub sound : IsSound f.outline

-- the same of a field: an integer has no level
pub record IsFlatField (m : Module) (field : ℕ) (f : Flat) : Type 0 where
  pub kept : Shape
  pub within : flat_field (flat_within f.levels m) m field ≡ Some kept
  pub outline_is : f.outline ≡ outline kept
  pub least : (n : ℕ) → n < f.levels → flat_field (flat_within n m) m field ≡ None
  pub sound : IsSound f.outline

-- of fields, one after another
abbrev pub AreFlat : Module → List ℕ → List Flat → Type 0
AreFlat m [] [] = ⊤
AreFlat m (field ∷ fields) (f ∷ fs) = IsFlatField m field f × AreFlat m fields fs
AreFlat m _ _ = ⊥

-- what was found within so many levels
abbrev pub TypeAnswers : Module → ℕ → ℕ → Option Flat → Type 0
TypeAnswers m left t None = flat_within left m t ≡ None
TypeAnswers m left t (Some f) = IsFlat m t f × (f.levels ≤ left)

abbrev pub FieldAnswers : Module → ℕ → ℕ → Option Flat → Type 0
FieldAnswers m left field None = flat_field (flat_within left m) m field ≡ None
FieldAnswers m left field (Some f) = IsFlatField m field f × (f.levels ≤ left)

-- the most levels of some fields
abbrev pub deepest : List Flat → ℕ
deepest [] = 0
deepest (f ∷ fs) = max f.levels (deepest fs)

-- what was found of fields that have at most so many levels
abbrev pub FieldsAnswer : Module → ℕ → List ℕ → Option (List Flat) → Type 0
FieldsAnswer m left fields None = all_some (map (flat_field (flat_within left m) m) fields) ≡ None
FieldsAnswer m left fields (Some fs) = AreFlat m fields fs × All (λ f. f.levels ≤ left) fs

-- what is known of a type
abbrev pub IsFound : Module → ℕ → Found → Type 0
IsFound m t found.Unknown = ⊤
IsFound m t found.NotFlat = flat_shape m t ≡ None
IsFound m t (found.Kept f) = IsFlat m t f × (f.levels ≤ most_levels)

-- what is known of each type of a file, by the rows of TypeDef from 0
abbrev pub AreFound : Module → List Found → Type 0
AreFound m known = (t : ℕ) → IsFound m t (slice_index_or known t found.Unknown)
