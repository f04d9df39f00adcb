-- Which value types are kept as bytes, as they lie in native memory: those of integers alone, at any depth, that can be laid out
-- (ECMA-335 II.10.7, II.14.3; ClassLayout II.22.8, FieldLayout II.22.16).
use Rattle.std.specs.Prelude.{ℕ, zero, suc, ◌-◌, ◌^◌, Bool, true, not, ◌==◌, ◌&&◌, ◌||◌, nat_le, bit_and, List, [], ◌∷◌, map, slice_get, min, Option, Some, None, option_map, option_and_then, if◌then◌else◌}
use Rattle.std.specs.Option.{option_or}
use Rattle.managed_value.specs.declared.names.TypeId.{TypeId}
use Rattle.native_layout.specs.declared.shapes.Shape as shape
use Rattle.native_layout.specs.declared.shapes.Shape.{Shape}
use Rattle.native_layout.specs.declared.shapes.StructShape.{StructShape}
use Rattle.native_layout.specs.Shapes.{stands, parts_of}
use Rattle.type_model.specs.Module.{Module}
use Rattle.type_model.specs.Core.{enum_place}
use Rattle.type_model.specs.Rows.{type_defs}
use Rattle.type_model.specs.TypeIds.{core_id, def_id, is_core, is_row}
use Rattle.type_model.specs.Types.{enum_of, field_type, instance_fields, integer_id, is_below, is_value_type}
use Rattle.type_model.specs.Members.{TypeRow, field, type_row_of}
use Rattle.flat_types.specs.declared.structs.Facts.{Facts}

-- the shapes of the integers, from SByte to UIntPtr in the order of their places among the core types
abbrev pub integer_shapes : List Shape
integer_shapes =
    shape.Int 1 true ∷ shape.Int 1 Bool.false ∷ shape.Int 2 true ∷ shape.Int 2 Bool.false ∷ shape.Int 4 true ∷ shape.Int 4 Bool.false
    ∷ shape.Int 8 true ∷ shape.Int 8 Bool.false ∷ shape.Native true ∷ shape.Native Bool.false ∷ []

-- an integer type, by its place; that of SByte is 7
abbrev pub integer_shape : ℕ → Option Shape
integer_shape place = if nat_le 7 place then slice_get integer_shapes (place - 7) else None

-- The integer type that values of a type are, by its place: an integer type is its own, an enum has one; a pointer counts as UIntPtr.
abbrev pub integer_place : Module → TypeId → Option ℕ
integer_place m id = option_or (integer_id id) (enum_of m id)

-- a value type of the file, and not below Enum
abbrev pub is_struct : Module → TypeId → Bool
is_struct m id = is_value_type m id && not (is_core id.base) && not (is_below m id (core_id enum_place))

-- the layout of a type's flags is sequential or explicit (II.23.1.15)
abbrev pub is_laid_by_flags : ℕ → Bool
is_laid_by_flags flags = bit_and flags 0x18 == 0x8 || bit_and flags 0x18 == 0x10

-- what a field of a type has of a value that is kept as bytes, by those of the structs that may stand in it
abbrev pub flat_part : (ℕ → Option StructShape) → Module → TypeId → Option Shape
flat_part inner m id =
    option_or (option_and_then integer_shape (integer_place m id))
    (if is_struct m id then option_map shape.Struct (inner id.base) else None)

abbrev pub flat_field : (ℕ → Option StructShape) → Module → ℕ → Option Shape
flat_field inner m f = option_and_then (flat_part inner m) (field_type m f)

-- where a field is said to stand
abbrev pub written_offset : Module → ℕ → Option ℕ
written_offset m f = option_and_then (λ known. known.offset) (field m f)

-- What is said of a struct of the file by its rows; None for any other type and for one with automatic layout. A packing above 128
-- bytes is none, so that the greatest that a column of two bytes holds stands for each above it.
abbrev pub facts_by : Module → ℕ → TypeRow → Facts
facts_by m t known = record {
  pack = min known.pack 0xFFFF;
  least = known.least;
  explicit = bit_and known.flags 0x18 == 0x10;
  fields = instance_fields m (def_id t);
  offsets = map (written_offset m) (instance_fields m (def_id t));
}

unfoldable pub facts_of : Module → ℕ → Option Facts
facts_of m t =
    if is_row m type_defs t && is_struct m (def_id t) && is_laid_by_flags (type_row_of m t).flags
    then Some (facts_by m t (type_row_of m t))
    else None

abbrev pub struct_by : ℕ → Facts → List Shape → StructShape
struct_by t facts shapes = record {
  ty = t;
  pack = facts.pack;
  least = facts.least;
  explicit = facts.explicit;
  fields = shapes;
  offsets = facts.offsets;
}

-- a struct that can be laid out, of at most 2^20 scalars
abbrev pub keep : StructShape → Option StructShape
keep s = if stands (shape.Struct s) && nat_le (parts_of (shape.Struct s)) (2 ^ 20) then Some s else None

-- the values of a list of which each is there
abbrev pub all_some : {A : Type 0} → List (Option A) → Option (List A)
all_some [] = Some []
all_some (None ∷ rest) = None
all_some (Some a ∷ rest) = option_map (λ values. a ∷ values) (all_some rest)

-- a value type that is kept as bytes, by the structs that may stand in it
abbrev pub flat_by : (ℕ → Option StructShape) → Module → ℕ → Facts → Option StructShape
flat_by inner m t facts =
    option_and_then (λ shapes. keep (struct_by t facts shapes)) (all_some (map (flat_field inner m) facts.fields))

-- the same, where at most so many structs stand in one another
unfoldable pub flat_within : ℕ → Module → ℕ → Option StructShape
flat_within zero m t = None
flat_within (suc n) m t = option_and_then (flat_by (flat_within n m) m t) (facts_of m t)

-- the most structs in one another: with an integer within they are 64 deep
abbrev pub most_levels : ℕ
most_levels = 63

-- The shape of a value type of the file that is kept as bytes, by its row of TypeDef, whatever descriptors its fields have; None for
-- any other type.
unfoldable pub flat_shape : Module → ℕ → Option StructShape
flat_shape m t = flat_within most_levels m t
