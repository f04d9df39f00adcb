-- What a shape is in memory.
use Rattle.std.specs.Prelude.{ℕ, ◌+◌, ◌*◌, Bool, true, false, ◌==◌, [], ◌∷◌, map, sum, List}
use Rattle.std.specs.List.{list_all, list_any}
use Rattle.native_layout.specs.declared.extent.Extent.{Extent}
use Rattle.native_layout.specs.declared.shapes.Enc.{Enc}
use Rattle.native_layout.specs.declared.shapes.Enc.TheVariants.{Utf8, Utf16}
use Rattle.native_layout.specs.declared.shapes.Shape.{Shape, out-Shape}
use Rattle.native_layout.specs.declared.shapes.Shape.TheOpen.{Shape-F, StructShape-F}
use Rattle.native_layout.specs.declared.shapes.Shape.TheFolds.{fold-Shape}
use Rattle.native_layout.specs.declared.shapes.StructShape.{StructShape}
use Rattle.native_layout.specs.Struct.{Measure, Struct, struct_measure, greatest}

-- the width of a unit of a text, in bytes
abbrev pub unit_width : Enc → ℕ
unit_width Utf8 = 1
unit_width Utf16 = 2

-- a scalar that is aligned at its own width
abbrev pub scalar : ℕ → Bool → Measure
scalar width integral = record { extent = record { size = width; align = width }; integral = integral; stands = true }

-- n of them, one after another
abbrev pub repeated : ℕ → Measure → Measure
repeated n m = record {
  extent = record { size = n * m.extent.size; align = m.extent.align };
  integral = false;
  stands = m.stands;
}

-- one level of a shape, whose parts are measured
abbrev pub measure_step : Shape-F Measure Measure → Measure
measure_step (Shape-F.Int width signed) = scalar width true
measure_step (Shape-F.Native signed) = scalar 8 true
measure_step (Shape-F.Bool width) = scalar width false
measure_step (Shape-F.Char width) = scalar width false
measure_step (Shape-F.Text enc) = scalar 8 false
measure_step (Shape-F.Thunk ty) = scalar 8 false
measure_step (Shape-F.InlineText enc n) = repeated n (scalar (unit_width enc) false)
measure_step (Shape-F.InlineArray ty element n) = repeated n element
measure_step (Shape-F.Struct m) = m

abbrev pub struct_step : StructShape-F Measure Measure → Measure
struct_step s = struct_measure (record {
  pack = s.pack;
  least = s.least;
  explicit = s.explicit;
  fields = s.fields;
  offsets = s.offsets;
})

-- the size, the alignment and more of a shape
abbrev pub measure : Shape → Measure
measure = fold-Shape Measure Measure measure_step struct_step

-- whether each struct in a shape can be laid out
abbrev pub stands : Shape → Bool
stands shape = (measure shape).stands

abbrev pub extents_of : List Shape → List Extent
extents_of shapes = map (λ m. m.extent) (map measure shapes)

-- a struct by the measures of its fields
abbrev pub measured : StructShape → Struct
measured s = record {
  pack = s.pack;
  least = s.least;
  explicit = s.explicit;
  fields = map measure s.fields;
  offsets = s.offsets;
}

-- an integer, a character of two bytes, or a struct of nothing but integers and such structs
abbrev pub flat_step : Bool → Shape-F Shape StructShape → Bool
flat_step integral (Shape-F.Char width) = width == 2
flat_step integral _ = integral

abbrev pub flat : Shape → Bool
flat shape = flat_step (measure shape).integral (out-Shape shape)

-- whether a text or a delegate stands in a shape, each of which is a pointer
abbrev pub pointer_step : Shape-F Bool Bool → Bool
pointer_step (Shape-F.Text enc) = true
pointer_step (Shape-F.Thunk ty) = true
pointer_step (Shape-F.InlineArray ty element n) = element
pointer_step (Shape-F.Struct s) = s
pointer_step _ = false

abbrev pub pointers_in : Shape → Bool
pointers_in = fold-Shape Bool Bool pointer_step (λ s. list_any (λ f. f) s.fields)

-- whether a text stands in a shape as a pointer
abbrev pub text_step : Shape-F Bool Bool → Bool
text_step (Shape-F.Text enc) = true
text_step (Shape-F.InlineArray ty element n) = element
text_step (Shape-F.Struct s) = s
text_step _ = false

abbrev pub texts_in : Shape → Bool
texts_in = fold-Shape Bool Bool text_step (λ s. list_any (λ f. f) s.fields)

-- how deep a shape is: a struct and an array in place are one level above the deepest of their parts
abbrev pub nesting_step : Shape-F ℕ ℕ → ℕ
nesting_step (Shape-F.InlineArray ty element n) = 1 + element
nesting_step (Shape-F.Struct s) = s
nesting_step _ = 1

abbrev pub nesting : Shape → ℕ
nesting = fold-Shape ℕ ℕ nesting_step (λ s. 1 + greatest 0 s.fields)

-- how many scalars, texts and delegates stand in a shape, an array's element as often as its count
abbrev pub parts_step : Shape-F ℕ ℕ → ℕ
parts_step (Shape-F.InlineArray ty element n) = n * element
parts_step (Shape-F.Struct s) = s
parts_step _ = 1

abbrev pub parts_of : Shape → ℕ
parts_of = fold-Shape ℕ ℕ parts_step (λ s. sum s.fields)

-- whether each width is one that its kind has
abbrev pub order_step : Shape-F Bool Bool → Bool
order_step (Shape-F.Int width signed) = list_any (λ w. w == width) (1 ∷ 2 ∷ 4 ∷ 8 ∷ [])
order_step (Shape-F.Bool width) = list_any (λ w. w == width) (1 ∷ 4 ∷ [])
order_step (Shape-F.Char width) = list_any (λ w. w == width) (1 ∷ 2 ∷ [])
order_step (Shape-F.InlineArray ty element n) = element
order_step (Shape-F.Struct s) = s
order_step _ = true

abbrev pub in_order : Shape → Bool
in_order = fold-Shape Bool Bool order_step (λ s. list_all (λ f. f) s.fields)

-- the same of a struct
abbrev pub struct_in_order : StructShape → Bool
struct_in_order s = list_all in_order s.fields
