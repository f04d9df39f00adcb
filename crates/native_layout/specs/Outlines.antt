-- What is told of a shape without its parts.
use Rattle.std.specs.Prelude.{◌≡◌, ℕ, ◌+◌, ◌^◌, ◌≤◌, min, Bool, IsTrue, List, map, Option, Some, None, if◌then◌else◌}
use Rattle.native_layout.specs.declared.extent.Extent.{Extent}
use Rattle.native_layout.specs.declared.fields.LayoutRules.{LayoutRules}
use Rattle.native_layout.specs.declared.outlines.Outline.{Outline}
use Rattle.native_layout.specs.declared.shapes.Shape.{InlineArray, Shape, Struct}
use Rattle.native_layout.specs.Struct.{Measure, is_align, struct_measure}
use Rattle.native_layout.specs.Shapes.{flat, measure, nesting, parts_of, pointers_in, stands}
use Rattle.native_layout.specs.Placed.{cap}
use Rattle.native_layout.specs.Ruled.{ruled}

-- the extent that is told of what can't be laid out
abbrev pub no_extent : Extent
no_extent = record { size = 0; align = 1 }

-- What is told of a shape: a size above 2^32 as 2^32, a depth above 65 as 65, more than 2^20 + 1 parts as 2^20 + 1.
abbrev pub outline : Shape → Outline
outline shape = record {
  extent = if stands shape then cap (measure shape).extent else no_extent;
  integral = (measure shape).integral;
  flat = flat shape;
  pointers = pointers_in shape;
  stands = stands shape;
  nesting = min (nesting shape) 65;
  parts = min (parts_of shape) (2 ^ 20 + 1);
}

-- an extent with an alignment, as the code counts it
pub record IsCounted (e : Extent) : Type 0 where
  pub align : IsTrue (is_align e.align)
  pub size : e.size ≤ 2 ^ 32

-- an outline of a shape whose widths are in order
pub record IsSound (o : Outline) : Type 0 where
  pub extent : IsCounted o.extent
  pub parts : o.parts ≤ 2 ^ 20 + 1

-- the outline of an array in place, whatever its element is
abbrev pub OutlinesArray : Outline → ℕ → Outline → Type 0
OutlinesArray element count o =
    (ty : ℕ) (shape : Shape) → element ≡ outline shape → o ≡ outline (InlineArray ty shape count)

-- the outline of a struct, whatever its fields are
abbrev pub OutlinesStruct : ℕ → ℕ → Bool → List Outline → List (Option ℕ) → Outline → Type 0
OutlinesStruct pack least explicit fields offsets o =
    (ty : ℕ) (shapes : List Shape) → fields ≡ map outline shapes
    → o ≡ outline (Struct (record {
      ty = ty;
      pack = pack;
      least = least;
      explicit = explicit;
      fields = shapes;
      offsets = offsets;
    }))

-- the extent of what stands
abbrev pub extent_if : Measure → Option Extent
extent_if m = if m.stands then Some (cap m.extent) else None

-- the extent of a struct, whatever its fields are
abbrev pub ExtendsStruct : LayoutRules → List (Option ℕ) → List Outline → Option Extent → Type 0
ExtendsStruct rules offsets fields found =
    (shapes : List Shape) → fields ≡ map outline shapes → found ≡ extent_if (struct_measure (ruled rules offsets (map measure shapes)))
