-- Of all rows, just the row of its kind has an entry for a type that is no array.
use Rattle.std.proofs.Common.{◌≡◌, ◌≢◌, ℕ, Bool, true, false, not, cond, Option, Some, None, is_some, refl, sym, ap, subst, ◌∙◌}
use Rattle.std.specs.Option.{option_and_then, option_map}
use Rattle.native_layout.specs.declared.shapes.Shape.{Shape}
use Rattle.native_layout.specs.Shapes.{flat}
use Rattle.marshal_spec.specs.declared.spec.Spec.TheVariants.{Plain, ByValText, ByValArray, LpArray}
use Rattle.stub_maker.specs.declared.kinds.Kind.{Kind}
use Rattle.stub_maker.specs.declared.kinds.Kind.TheVariants as kind
use Rattle.stub_maker.specs.declared.kinds.Descriptor.{Descriptor}
use Rattle.stub_maker.specs.declared.kinds.Descriptor.TheVariants.{Nothing, Unread, Is}
use Rattle.stub_maker.specs.declared.table.Row.TheVariants as row
use Rattle.stub_maker.specs.declared.table.Column.{Column}
use Rattle.stub_maker.specs.declared.table.Column.TheVariants as col
use Rattle.stub_maker.specs.declared.table.Cell.{Cell}
use Rattle.stub_maker.specs.declared.table.Cell.TheVariants.{Outside}
use Rattle.stub_maker.specs.declared.kinds.TypeKind.TheVariants.{Array}
use Rattle.stub_maker.specs.declared.entries.Found.{Found}
use Rattle.stub_maker.specs.declared.entries.Contents.{Contents}
use Rattle.stub_maker.specs.Forms.{when}
use Rattle.stub_maker.specs.Table.{cell_at, rows}
use Rattle.stub_maker.specs.Shapes.{Entry, Known, behind_pointer, element_by, entry_if, first_entry, flat_one, one_by, or_else, other_one, shape_by, shape_of_form}
use Rattle.stub_maker.specs.Entries.{IsFound, pointed, row_form}

or_else_none : {A : Type 0} (o : Option A) → or_else o None ≡ o
or_else_none (Some a) = refl
or_else_none None = refl

pub the_entry : (known : Known) (u : Bool) (column : Column) (k : Kind) (d : Descriptor)
    → first_entry (λ r. one_by known u r k d) column rows
    ≡ entry_if (cell_at (row_form u k d).row column) (option_and_then (shape_of_form known) (row_form u k d).form)
the_entry known u column (kind.Integer width signed) d = or_else_none _
the_entry known u column (kind.NativeInteger signed) d = or_else_none _
the_entry known u column kind.Boolean d = or_else_none _
the_entry known u column kind.Character d = or_else_none _
the_entry known u column kind.Pointer Nothing = or_else_none _
the_entry known u column kind.Pointer Unread = refl
the_entry known u column kind.Pointer (Is s) = refl
the_entry known u column kind.Text Nothing = or_else_none _
the_entry known u column kind.Text Unread = refl
the_entry known u column kind.Text (Is (Plain code)) = or_else_none _
the_entry known u column kind.Text (Is (ByValText count)) = or_else_none _
the_entry known u column kind.Text (Is (ByValArray count code)) = refl
the_entry known u column kind.Text (Is (LpArray code parameter count flag)) = refl
the_entry known u column (kind.Struct ty) d = or_else_none _
the_entry known u column (kind.Delegate ty) d = or_else_none _
the_entry known u column kind.Handle Nothing = or_else_none _
the_entry known u column kind.Handle Unread = refl
the_entry known u column kind.Handle (Is s) = refl
the_entry known u column kind.Other d = refl

-- an array in place crosses in a field alone
inline_outside : (column : Column) → column ≢ col.Field → cell_at row.InlineArrays column ≡ Outside
inline_outside col.ByValue n = refl
inline_outside col.ByReference n = refl
inline_outside col.Returned n = refl
inline_outside col.Field n = absurd (n refl)
inline_outside col.Element n = refl
inline_outside col.InlineElement n = refl
inline_outside col.CallbackValue n = refl
inline_outside col.CallbackReference n = refl
inline_outside col.CallbackReturned n = refl

outside_none : (o : Option Shape) → entry_if Outside o ≡ None
outside_none None = refl
outside_none (Some s) = refl

none_in_place : (column : Column) → column ≢ col.Field → (o : Option Shape) → entry_if (cell_at row.InlineArrays column) o ≡ None
none_in_place column n o = let P : Cell → Type 0 = λ c. entry_if c o ≡ None in subst P (sym (inline_outside column n)) (outside_none o)

-- the two rows of arrays behind a pointer are one, by whether the elements are flat
two_rows : (column : Column) (o : Option Shape)
    → or_else (entry_if (cell_at row.FlatArrays column) (option_and_then flat_one o)) (or_else (entry_if (cell_at row.OtherArrays column) (option_and_then other_one o)) None)
    ≡ pointed column o
two_rows column None = refl
two_rows column (Some s) =
    elim (flat s) as (λ f. or_else (entry_if (cell_at row.FlatArrays column) (when f (Some s))) (or_else (entry_if (cell_at row.OtherArrays column) (when (not f) (Some s))) None)
    ≡ entry_if (cell_at (cond f row.FlatArrays row.OtherArrays) column) (Some s)) [
      | true ↦ or_else_none _
      | false ↦ or_else_none _
    ]

pub the_array : (known : Known) (u : Bool) (column : Column) → column ≢ col.Field → (base : ℕ) (k : Kind) (d : Descriptor)
    → first_entry (λ r. shape_by known u r (Array base k) d) column rows ≡ pointed column (behind_pointer known u k d)
the_array known u column n base k Nothing = two_rows column (behind_pointer known u k Nothing)
the_array known u column n base k Unread = refl
the_array known u column n base k (Is (Plain code)) = refl
the_array known u column n base k (Is (ByValText count)) = refl
the_array known u column n base k (Is (ByValArray count code)) =
    ap (λ o. or_else o None) (none_in_place column n (shape_by known u row.InlineArrays (Array base k) (Is (ByValArray count code))))
the_array known u column n base k (Is (LpArray code parameter count flag)) = two_rows column (element_by known u col.Element k code)

-- what is found of an element decides its array
pub pointed_some : (known : Known) (column : Column) (f : Found) (o : Option Entry) → IsFound known (Some f) o
    → pointed column (option_map (λ e. e.shape) o)
    ≡ entry_if (cell_at (cond f.contents.flat row.FlatArrays row.OtherArrays) column) (shape_of_form known f.form)
pointed_some known column f None h = absurd h
pointed_some known column f (Some e) h =
    let flat_is : flat e.shape ≡ f.contents.flat = sym (ap (λ (c : Contents). c.flat) h.contents_are) in
    ap (λ b. entry_if (cell_at (cond b row.FlatArrays row.OtherArrays) column) (Some e.shape)) flat_is
    ∙ ap (λ o. entry_if (cell_at (cond f.contents.flat row.FlatArrays row.OtherArrays) column) o) (sym h.shape)

pub pointed_none : (known : Known) (column : Column) (o : Option Entry) → IsFound known None o → pointed column (option_map (λ e. e.shape) o) ≡ None
pointed_none known column None h = refl
pointed_none known column (Some e) h = absurd h

-- an entry is found just where there is one
pub found_is_some : (known : Known) (f : Option Found) (o : Option Entry) → IsFound known f o → is_some f ≡ is_some o
found_is_some known None None h = refl
found_is_some known None (Some e) h = absurd h
found_is_some known (Some f) None h = absurd h
found_is_some known (Some f) (Some e) h = refl
