-- What a type looks like in native memory, by its row in the marshalling table, its descriptor and the charset.
use Rattle.std.specs.Prelude.{◌≡◌, ℕ, Bool, not, nat_le, List, [], ◌∷◌, Option, Some, None, is_some}
use Rattle.std.specs.List.{list_any}
use Rattle.std.specs.Option.{option_and_then, option_map}
use Rattle.native_layout.specs.declared.shapes.Shape as shape
use Rattle.native_layout.specs.declared.shapes.Shape.{Shape}
use Rattle.native_layout.specs.declared.shapes.StructShape.{StructShape}
use Rattle.native_layout.specs.Shapes.{flat, pointers_in}
use Rattle.marshal_spec.specs.declared.spec.Spec.TheVariants.{Plain, ByValText, ByValArray, LpArray}
use Rattle.stub_maker.specs.declared.kinds.Kind.{Kind}
use Rattle.stub_maker.specs.declared.kinds.Form.{Form}
use Rattle.stub_maker.specs.declared.kinds.Form.TheVariants as form
use Rattle.stub_maker.specs.declared.kinds.TypeKind.{TypeKind}
use Rattle.stub_maker.specs.declared.kinds.TypeKind.TheVariants.{One, Array}
use Rattle.stub_maker.specs.declared.kinds.Descriptor.{Descriptor}
use Rattle.stub_maker.specs.declared.kinds.Descriptor.TheVariants.{Nothing, Is}
use Rattle.stub_maker.specs.declared.table.Row.{Row}
use Rattle.stub_maker.specs.declared.table.Row.TheVariants as row
use Rattle.stub_maker.specs.declared.table.Column.{Column}
use Rattle.stub_maker.specs.declared.table.Column.TheVariants as column
use Rattle.stub_maker.specs.declared.table.Cell.{Cell}
use Rattle.stub_maker.specs.Table.{rows, cell_at, admits}
use Rattle.stub_maker.specs.Forms.{bytes, form_by, when}

-- what is known of the value types and the delegate types of the file, by their rows: the shape of a value type, none where
-- it has no row in the table; whether a delegate type has one
pub record Known : Type 0 where
  pub struct_of : ℕ → Option StructShape
  pub is_callable : ℕ → Bool

-- the shape that a form stands for, None where its type has no row in the table
abbrev pub shape_of_form : Known → Form → Option Shape
shape_of_form known (form.Int width signed) = Some (shape.Int (bytes width) signed)
shape_of_form known (form.Native signed) = Some (shape.Native signed)
shape_of_form known (form.Bool width) = Some (shape.Bool (bytes width))
shape_of_form known (form.Char width) = Some (shape.Char (bytes width))
shape_of_form known (form.Text encoding) = Some (shape.Text encoding)
shape_of_form known (form.InlineText encoding count) = Some (shape.InlineText encoding count)
shape_of_form known (form.Struct ty) = option_map shape.Struct (known.struct_of ty)
shape_of_form known (form.Thunk ty) = when (known.is_callable ty) (Some (shape.Thunk ty))

-- the shape of a type that is no array by a row
abbrev pub one_by : Known → Bool → Row → Kind → Descriptor → Option Shape
one_by known unicode r k d = option_and_then (shape_of_form known) (form_by unicode r k d)

-- a cell of the table in which a type crosses, and its shape there
pub record Entry : Type 0 where
  pub cell : Cell
  pub shape : Shape

abbrev pub entry_if : Cell → Option Shape → Option Entry
entry_if cell None = None
entry_if cell (Some s) = when (admits cell (flat s) (pointers_in s)) (Some (record { cell = cell; shape = s }))

abbrev pub or_else : {A : Type 0} → Option A → Option A → Option A
or_else (Some a) rest = Some a
or_else None rest = rest

-- the first of some rows in which a type crosses in a column, by its shape in each
abbrev pub first_entry : (Row → Option Shape) → Column → List Row → Option Entry
first_entry shape_in column [] = None
first_entry shape_in column (r ∷ rs) = or_else (entry_if (cell_at r column) (shape_in r)) (first_entry shape_in column rs)

abbrev pub described : Option ℕ → Descriptor
described None = Nothing
described (Some code) = Is (Plain code)

-- the shape of an element in an array, by its descriptor's code
abbrev pub element_by : Known → Bool → Column → Kind → Option ℕ → Option Shape
element_by known unicode column element code =
    option_map (λ e. e.shape) (first_entry (λ r. one_by known unicode r element (described code)) column rows)

-- the shape of an element in an array behind a pointer
abbrev pub behind_pointer : Known → Bool → Kind → Descriptor → Option Shape
behind_pointer known unicode element Nothing = element_by known unicode column.Element element None
behind_pointer known unicode element (Is (LpArray code parameter count flag)) =
    element_by known unicode column.Element element code
behind_pointer known unicode element _ = None

abbrev pub flat_one : Shape → Option Shape
flat_one s = when (flat s) (Some s)

abbrev pub other_one : Shape → Option Shape
other_one s = when (not (flat s)) (Some s)

-- The shape of a type by a row; of an array behind a pointer it is that of its elements.
abbrev pub shape_by : Known → Bool → Row → TypeKind → Descriptor → Option Shape
shape_by known unicode r (One k) d = one_by known unicode r k d
shape_by known unicode row.FlatArrays (Array base element) d = option_and_then flat_one (behind_pointer known unicode element d)
shape_by known unicode row.OtherArrays (Array base element) d = option_and_then other_one (behind_pointer known unicode element d)
shape_by known unicode row.InlineArrays (Array base element) (Is (ByValArray count code)) =
    when (nat_le 1 count)
    (option_map (λ s. shape.InlineArray base s count) (element_by known unicode column.InlineElement element code))
shape_by known unicode _ _ _ = None

-- how a type crosses in a column, None where no row lets it cross there under this descriptor
abbrev pub entry_by : Known → Bool → Column → TypeKind → Descriptor → Option Entry
entry_by known unicode column type d = first_entry (λ r. shape_by known unicode r type d) column rows

-- whether a type crosses in a column at all, under some descriptor
abbrev pub Crosses : Known → Bool → Column → TypeKind → Type 0
Crosses known unicode column type = (d : Descriptor) × (e : Entry) × (entry_by known unicode column type d ≡ Some e)

-- descriptors one of which a type takes, where it crosses in a column at all: none; a text or an array in place; an array
-- behind a pointer, whose characters have one byte or two
abbrev pub simplest_descriptors : List Descriptor
simplest_descriptors =
    Nothing ∷ Is (ByValText 1) ∷ Is (ByValArray 1 None)
    ∷ Is (LpArray (Some 0x04) None None None) ∷ Is (LpArray (Some 0x06) None None None) ∷ []

abbrev pub crosses : Known → Bool → Column → TypeKind → Bool
crosses known unicode column type = list_any (λ d. is_some (entry_by known unicode column type d)) simplest_descriptors
