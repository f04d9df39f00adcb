-- The entry of a field is that of its own row: an array's is of one in place.
use Rattle.std.proofs.Common.{◌≡◌, ℕ, Bool, true, false, nat_le, Option, Some, None, is_some, refl, sym, ap, subst, ◌∙◌}
use Rattle.std.specs.Option.{option_and_then, option_map}
use Rattle.native_layout.specs.declared.shapes.Shape as shape
use Rattle.native_layout.specs.declared.shapes.Shape.{Shape}
use Rattle.marshal_spec.specs.declared.spec.Spec.TheVariants.{Plain, ByValText, ByValArray, LpArray}
use Rattle.stub_maker.specs.declared.kinds.Kind.{Kind}
use Rattle.stub_maker.specs.declared.kinds.Descriptor.{Descriptor}
use Rattle.stub_maker.specs.declared.kinds.Descriptor.TheVariants.{Nothing, Unread, Is}
use Rattle.stub_maker.specs.declared.kinds.TypeKind.TheVariants.{Array}
use Rattle.stub_maker.specs.declared.table.Row.TheVariants as row
use Rattle.stub_maker.specs.declared.table.Column.TheVariants as col
use Rattle.stub_maker.specs.declared.table.Cell.TheVariants.{Outside, Part}
use Rattle.stub_maker.specs.declared.entries.Found.{Found}
use Rattle.stub_maker.specs.Table.{rows}
use Rattle.stub_maker.specs.Forms.{when}
use Rattle.stub_maker.specs.Shapes.{Entry, Known, behind_pointer, element_by, entry_if, first_entry, flat_one, or_else, other_one, shape_by, shape_of_form}
use Rattle.stub_maker.specs.Entries.{IsFound}

-- the shape of what is found
pub found_shape : (known : Known) (f : Found) (o : Option Entry) → IsFound known (Some f) o
    → shape_of_form known f.form ≡ option_map (λ (e : Entry). e.shape) o
found_shape known f None h = absurd h
found_shape known f (Some e) h = h.shape

pub no_shape : (known : Known) (o : Option Entry) → IsFound known None o → None ≡ option_map (λ (e : Entry). e.shape) o
no_shape known None h = refl
no_shape known (Some e) h = absurd h

pub found_there : (known : Known) (f : Found) (o : Option Entry) → IsFound known (Some f) o → true ≡ is_some o
found_there known f None h = absurd h
found_there known f (Some e) h = refl

pub none_there : (known : Known) (o : Option Entry) → IsFound known None o → false ≡ is_some o
none_there known None h = refl
none_there known (Some e) h = absurd h

pub mapped_there : {A B : Type 0} (f : A → B) (o : Option A) → is_some (option_map f o) ≡ is_some o
mapped_there f None = refl
mapped_there f (Some a) = refl

-- arrays behind a pointer don't cross in a field
outside_twice : (a b : Option Shape) (rest : Option Entry) → or_else (entry_if Outside a) (or_else (entry_if Outside b) rest) ≡ rest
outside_twice None None rest = refl
outside_twice None (Some t) rest = refl
outside_twice (Some s) None rest = refl
outside_twice (Some s) (Some t) rest = refl

part_alone : (o : Option Shape) → option_map (λ (e : Entry). e.shape) (or_else (entry_if Part o) None) ≡ o
part_alone None = refl
part_alone (Some s) = refl

no_array : (a b : Option Shape) → option_map (λ (e : Entry). e.shape) (or_else (entry_if Outside a) (or_else (entry_if Outside b) None)) ≡ None
no_array a b = ap (option_map (λ (e : Entry). e.shape)) (outside_twice a b None)

pub field_array : (known : Known) (u : Bool) (base : ℕ) (k : Kind) (d : Descriptor)
    → option_map (λ (e : Entry). e.shape) (first_entry (λ r. shape_by known u r (Array base k) d) col.Field rows)
    ≡ shape_by known u row.InlineArrays (Array base k) d
field_array known u base k Nothing = no_array (option_and_then flat_one (behind_pointer known u k Nothing)) (option_and_then other_one (behind_pointer known u k Nothing))
field_array known u base k Unread = refl
field_array known u base k (Is (Plain code)) = refl
field_array known u base k (Is (ByValText count)) = refl
field_array known u base k (Is (ByValArray count code)) = part_alone (shape_by known u row.InlineArrays (Array base k) (Is (ByValArray count code)))
field_array known u base k (Is (LpArray code parameter count flag)) = no_array (option_and_then flat_one (element_by known u col.Element k code)) (option_and_then other_one (element_by known u col.Element k code))

-- the entry of a field that is an array
or_none : (o : Option Entry) → or_else o None ≡ o
or_none None = refl
or_none (Some e) = refl

no_entry : (a b : Option Shape) → or_else (entry_if Outside a) (or_else (entry_if Outside b) None) ≡ None
no_entry a b = outside_twice a b None

pub field_entry : (known : Known) (u : Bool) (base : ℕ) (k : Kind) (d : Descriptor)
    → first_entry (λ r. shape_by known u r (Array base k) d) col.Field rows ≡ entry_if Part (shape_by known u row.InlineArrays (Array base k) d)
field_entry known u base k Nothing = no_entry (option_and_then flat_one (behind_pointer known u k Nothing)) (option_and_then other_one (behind_pointer known u k Nothing))
field_entry known u base k Unread = refl
field_entry known u base k (Is (Plain code)) = refl
field_entry known u base k (Is (ByValText count)) = refl
field_entry known u base k (Is (ByValArray count code)) = or_none (entry_if Part (shape_by known u row.InlineArrays (Array base k) (Is (ByValArray count code))))
field_entry known u base k (Is (LpArray code parameter count flag)) = no_entry (option_and_then flat_one (element_by known u col.Element k code)) (option_and_then other_one (element_by known u col.Element k code))

-- an array in place has at least one element
pub inline_when : (known : Known) (u : Bool) (base : ℕ) (k : Kind) (count : ℕ) (code : Option ℕ) → nat_le 1 count ≡ true
    → option_map (λ s. shape.InlineArray base s count) (element_by known u col.InlineElement k code)
    ≡ shape_by known u row.InlineArrays (Array base k) (Is (ByValArray count code))
inline_when known u base k count code h =
    let P : Bool → Type 0 = λ b. option_map (λ s. shape.InlineArray base s count) (element_by known u col.InlineElement k code)
    ≡ when b (option_map (λ s. shape.InlineArray base s count) (element_by known u col.InlineElement k code)) in
    subst P (sym h) refl

pub inline_there : (known : Known) (u : Bool) (base : ℕ) (k : Kind) (count : ℕ) (code : Option ℕ) → nat_le 1 count ≡ true
    → is_some (element_by known u col.InlineElement k code) ≡ is_some (shape_by known u row.InlineArrays (Array base k) (Is (ByValArray count code)))
inline_there known u base k count code h =
    sym (mapped_there (λ s. shape.InlineArray base s count) (element_by known u col.InlineElement k code)) ∙ ap is_some (inline_when known u base k count code h)

part_there : (o : Option Shape) → is_some (entry_if Part o) ≡ is_some o
part_there None = refl
part_there (Some s) = refl

pub field_there : (known : Known) (u : Bool) (base : ℕ) (k : Kind) (d : Descriptor)
    → is_some (first_entry (λ r. shape_by known u r (Array base k) d) col.Field rows) ≡ is_some (shape_by known u row.InlineArrays (Array base k) d)
field_there known u base k d = ap is_some (field_entry known u base k d) ∙ part_there (shape_by known u row.InlineArrays (Array base k) d)
