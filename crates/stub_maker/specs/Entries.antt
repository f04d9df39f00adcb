-- An entry of the table as it is found: its form, and what the rule asks of its shape, before the shape is made.
use Rattle.std.specs.Prelude.{◌≡◌, Bool, true, nat_le, if◌then◌else◌, Option, Some, None, IsSomeAnd, IsTrue}
use Rattle.std.specs.Option.{option_map}
use Rattle.native_layout.specs.declared.shapes.Shape as shape
use Rattle.native_layout.specs.declared.shapes.Shape.{Shape}
use Rattle.native_layout.specs.Shapes.{flat, pointers_in}
use Rattle.marshal_spec.specs.declared.spec.Spec.TheVariants.{ByValText}
use Rattle.stub_maker.specs.declared.kinds.Width.TheVariants.{Eight}
use Rattle.stub_maker.specs.declared.kinds.Kind.{Kind}
use Rattle.stub_maker.specs.declared.kinds.Kind.TheVariants as kind
use Rattle.stub_maker.specs.declared.kinds.Form.{Form}
use Rattle.stub_maker.specs.declared.kinds.Form.TheVariants as form
use Rattle.stub_maker.specs.declared.kinds.FieldForm.{FieldForm}
use Rattle.stub_maker.specs.declared.kinds.FieldForm.TheVariants.{One, InlineArray}
use Rattle.stub_maker.specs.declared.kinds.Descriptor.{Descriptor}
use Rattle.stub_maker.specs.declared.kinds.Descriptor.TheVariants.{Nothing, Is}
use Rattle.stub_maker.specs.declared.table.Row.{Row}
use Rattle.stub_maker.specs.declared.table.Row.TheVariants as row
use Rattle.stub_maker.specs.declared.entries.Contents.{Contents}
use Rattle.stub_maker.specs.declared.entries.RowForm.{RowForm}
use Rattle.stub_maker.specs.declared.entries.Found.{Found}
use Rattle.stub_maker.specs.Extents.{is_laid_out}
use Rattle.stub_maker.specs.Forms.{bool_width_by, char_width_by, encoding_by, encoding_of, is_plain, sign_by, when}
use Rattle.stub_maker.specs.declared.table.Column.{Column}
use Rattle.stub_maker.specs.Table.{cell_at}
use Rattle.stub_maker.specs.Shapes.{Entry, Known, entry_if, shape_of_form}

abbrev pub contents : Shape → Contents
contents shape = record { flat = flat shape; pointers = pointers_in shape; laid_out = is_laid_out shape }

-- what stands in the shape of a form, None where its type has no row
abbrev pub contents_of : Known → Form → Option Contents
contents_of known form = option_map contents (shape_of_form known form)

-- the shape that a field's form stands for, None where its type has no row in the table
abbrev pub shape_of_field_form : Known → FieldForm → Option Shape
shape_of_field_form known (One f) = shape_of_form known f
shape_of_field_form known (InlineArray base element count) =
    option_map (λ s. shape.InlineArray base s count) (shape_of_form known element)

-- the row of a kind, and its form there, None where the row doesn't take the descriptor
abbrev pub in_row : Row → Option Form → RowForm
in_row r f = record { row = r; form = f }

abbrev pub text_form : Bool → Descriptor → RowForm
text_form unicode (Is (ByValText count)) =
    in_row row.InlineTexts (when (nat_le 1 count) (Some (form.InlineText (encoding_of unicode) count)))
text_form unicode d = in_row row.Texts (option_map form.Text (encoding_by unicode d))

abbrev pub without_descriptor : Descriptor → Form → Option Form
without_descriptor Nothing f = Some f
without_descriptor _ f = None

abbrev pub row_form : Bool → Kind → Descriptor → RowForm
row_form unicode (kind.Integer width signed) d = in_row row.Integers (option_map (form.Int width) (sign_by width signed d))
row_form unicode (kind.NativeInteger signed) d = in_row row.Integers (option_map form.Native (sign_by Eight signed d))
row_form unicode kind.Boolean d = in_row row.Booleans (option_map form.Bool (bool_width_by d))
row_form unicode kind.Character d = in_row row.Characters (option_map form.Char (char_width_by unicode d))
row_form unicode kind.Pointer d = in_row row.Pointers (without_descriptor d (form.Native true))
row_form unicode kind.Text d = text_form unicode d
row_form unicode (kind.Struct ty) d = in_row row.Structs (when (is_plain 0x1B d) (Some (form.Struct ty)))
row_form unicode (kind.Delegate ty) d = in_row row.Delegates (when (is_plain 0x26 d) (Some (form.Thunk ty)))
row_form unicode kind.Handle d = in_row row.Handles (without_descriptor d (form.Native true))
row_form unicode kind.Other d = in_row row.Integers None

-- an array behind a pointer, by the shape of its elements
abbrev pub pointed : Column → Option Shape → Option Entry
pointed column None = None
pointed column (Some s) = entry_if (cell_at (if flat s then row.FlatArrays else row.OtherArrays) column) (Some s)

-- what is found is an entry: its cell, its form's shape, and what stands in that
pub record IsEntry (known : Known) (found : Found) (e : Entry) : Type 0 where
  pub cell : found.cell ≡ e.cell
  pub shape : shape_of_form known found.form ≡ Some e.shape
  pub contents_are : found.contents ≡ contents e.shape

-- what is found is just what is there
abbrev pub IsFound : Known → Option Found → Option Entry → Type 0
IsFound known None None = Unit {0}
IsFound known (Some f) (Some e) = IsEntry known f e
IsFound known None (Some e) = ⊥
IsFound known (Some f) None = ⊥

-- a form has a shape, and that is laid out
abbrev pub IsLaidForm : Known → Form → Type 0
IsLaidForm known form = IsSomeAnd (shape_of_form known form) (λ s. IsTrue (is_laid_out s))
