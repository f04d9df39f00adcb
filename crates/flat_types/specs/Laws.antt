-- Laws of value types that are kept as bytes.
use Rattle.std.specs.Prelude.{◌≡◌, ◌+◌, ◌≤◌, ◌^◌, ℕ, true, Some}
use Rattle.native_layout.specs.declared.shapes.Shape as shape
use Rattle.native_layout.specs.declared.shapes.StructShape.{StructShape}
use Rattle.native_layout.specs.Shapes.{flat, stands, parts_of}
use Rattle.type_model.specs.Module.{Module}
use Rattle.flat_types.specs.Flat.{flat_shape, flat_within}

-- more levels find what fewer levels find
abbrev pub DeeperFindsTheSame : Type 0
DeeperFindsTheSame =
    (m : Module) (t n more : ℕ) (s : StructShape) → flat_within n m t ≡ Some s → flat_within (n + more) m t ≡ Some s

-- a struct of nothing but integers and such structs, which can be laid out
pub record IsOfIntegers (s : StructShape) : Type 0 where
  pub flat : flat (shape.Struct s) ≡ true
  pub stands : stands (shape.Struct s) ≡ true
  pub few : parts_of (shape.Struct s) ≤ 2 ^ 20

-- what is kept as bytes is made of integers alone
abbrev pub KeptTypesAreOfIntegers : Type 0
KeptTypesAreOfIntegers = (m : Module) (t : ℕ) (s : StructShape) → flat_shape m t ≡ Some s → IsOfIntegers s
