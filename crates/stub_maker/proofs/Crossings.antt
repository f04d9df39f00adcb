-- Five descriptors tell whether a type crosses in a column at all.
use Rattle.std.proofs.Common.{◌≡◌, ◌≢◌, ◌⊎◌, inl, inr, ℕ, Bool, true, false, cond, ◌||◌, List, [], ◌∷◌, Option, Some, None, is_some, refl, sym, ap, ◌∙◌}
use Rattle.std.specs.List.{list_any}
use Rattle.std.specs.Option.{option_and_then, option_map}
use Rattle.native_layout.specs.declared.shapes.Shape as shape
use Rattle.native_layout.specs.declared.shapes.Shape.{Shape}
use Rattle.native_layout.specs.declared.shapes.Enc.{Enc}
use Rattle.native_layout.specs.declared.shapes.StructShape.{StructShape}
use Rattle.native_layout.specs.Shapes.{flat}
use Rattle.marshal_spec.specs.declared.spec.Spec.TheVariants.{Plain, ByValText, ByValArray, LpArray}
use Rattle.stub_maker.specs.declared.kinds.Width.{Width}
use Rattle.stub_maker.specs.declared.kinds.Width.TheVariants.{Eight}
use Rattle.stub_maker.specs.declared.kinds.Kind.{Kind}
use Rattle.stub_maker.specs.declared.kinds.Kind.TheVariants as kind
use Rattle.stub_maker.specs.declared.kinds.Form.{Form}
use Rattle.stub_maker.specs.declared.kinds.Form.TheVariants as form
use Rattle.stub_maker.specs.declared.kinds.TypeKind.{TypeKind}
use Rattle.stub_maker.specs.declared.kinds.TypeKind.TheVariants.{One, Array}
use Rattle.stub_maker.specs.declared.kinds.Descriptor.{Descriptor}
use Rattle.stub_maker.specs.declared.kinds.Descriptor.TheVariants.{Nothing, Unread, Is}
use Rattle.stub_maker.specs.declared.table.Row.{Row}
use Rattle.stub_maker.specs.declared.table.Row.TheVariants as row
use Rattle.stub_maker.specs.declared.table.Column.{Column}
use Rattle.stub_maker.specs.declared.table.Column.TheVariants as column
use Rattle.stub_maker.specs.declared.table.Cell.{Cell}
use Rattle.stub_maker.specs.declared.table.Cell.TheVariants as cell
use Rattle.stub_maker.specs.Forms.{bytes, encoding_by, encoding_of, is_plain, sign_by, bool_width_by, when}
use Rattle.stub_maker.specs.Table.{cell_at, rows}
use Rattle.stub_maker.specs.Shapes.{Crosses, Entry, Known, behind_pointer, crosses, described, element_by, entry_by, entry_if, first_entry, one_by, or_else, shape_by, shape_of_form, simplest_descriptors}
use Rattle.stub_maker.specs.Entries.{pointed, row_form, without_descriptor}
use Rattle.stub_maker.specs.InOrder.{entered, first_in_row, mapped_some, when_some}
use Rattle.stub_maker.specs.Laws.{IsTold}
use Rattle.stub_maker.proofs.Computed.{flat_bool, flat_char, flat_int, flat_native, flat_text, flat_thunk}
use Rattle.stub_maker.proofs.OneRow.{the_array, the_entry}
use Rattle.stub_maker.proofs.Sizes.{outside}

-- ---- cells that look at no shape

abbrev is_steady : Cell → Bool
is_steady cell.PlainValue = false
is_steady cell.PlainPlace = false
is_steady cell.FlatPart = false
is_steady _ = true

abbrev is_struct_row : Row → Bool
is_struct_row row.Structs = true
is_struct_row _ = false

-- a cell of any row but that of value types lets each shape cross, or none
row_steady : (c : Column) (r : Row) → is_struct_row r ≡ false → is_steady (cell_at r c) ≡ true
row_steady column.ByValue row.Structs h = absurd (cc)
row_steady column.ByValue _ h = refl
row_steady column.ByReference row.Structs h = absurd (cc)
row_steady column.ByReference _ h = refl
row_steady column.Returned row.Structs h = absurd (cc)
row_steady column.Returned _ h = refl
row_steady column.Field row.Structs h = absurd (cc)
row_steady column.Field _ h = refl
row_steady column.Element row.Structs h = absurd (cc)
row_steady column.Element _ h = refl
row_steady column.InlineElement row.Structs h = absurd (cc)
row_steady column.InlineElement _ h = refl
row_steady column.CallbackValue row.Structs h = absurd (cc)
row_steady column.CallbackValue _ h = refl
row_steady column.CallbackReference row.Structs h = absurd (cc)
row_steady column.CallbackReference _ h = refl
row_steady column.CallbackReturned row.Structs h = absurd (cc)
row_steady column.CallbackReturned _ h = refl

steady_entry : (c : Cell) (o : Option Shape) (s : Shape) (e : Entry) → is_steady c ≡ true → entry_if c o ≡ Some e → is_some (entry_if c (Some s)) ≡ true
steady_entry cell.Outside o s e steady h = absurd (outside o e h)
steady_entry cell.PlainValue o s e steady h = absurd (cc)
steady_entry cell.PlainPlace o s e steady h = absurd (cc)
steady_entry cell.FlatPart o s e steady h = absurd (cc)
steady_entry _ o s e steady h = refl

-- where one shape crosses by such a row, each does
row_entry : (r : Row) (c : Column) (o : Option Shape) (s : Shape) (e : Entry) → is_struct_row r ≡ false → entry_if (cell_at r c) o ≡ Some e
    → is_some (entry_if (cell_at r c) (Some s)) ≡ true
row_entry r c o s e plain h = steady_entry (cell_at r c) o s e (row_steady c r plain) h

-- where a text crosses in place, it crosses behind a pointer too
text_entry : (c : Column) (o : Option Shape) (s : Shape) (e : Entry) → entry_if (cell_at row.InlineTexts c) o ≡ Some e
    → is_some (entry_if (cell_at row.Texts c) (Some s)) ≡ true
text_entry column.Field o s e h = refl
text_entry _ o s e h = absurd (outside o e h)

-- where an array of other elements crosses, one of flat elements does too
flat_entry : (c : Column) (o : Option Shape) (s : Shape) (e : Entry) → entry_if (cell_at row.OtherArrays c) o ≡ Some e
    → is_some (entry_if (cell_at row.FlatArrays c) (Some s)) ≡ true
flat_entry column.ByValue o s e h = refl
flat_entry _ o s e h = absurd (outside o e h)

-- ---- types that are no arrays: no descriptor tells

nothing_there : (c : Cell) (e : Entry) → entry_if c None ≡ Some e → ⊥
nothing_there c e h = cc

if_plain : (known : Known) (c : Cell) (b : Bool) (f : Form) (e : Entry) → entry_if c (option_and_then (shape_of_form known) (when b (Some f))) ≡ Some e
    → is_some (entry_if c (shape_of_form known f)) ≡ true
if_plain known c true f e h = ap is_some h
if_plain known c false f e h = absurd (nothing_there c e h)

text_tells : (known : Known) (u : Bool) (c : Column) (d : Descriptor) (e : Entry)
    → entry_if (cell_at row.Texts c) (option_and_then (shape_of_form known) (option_map form.Text (encoding_by u d))) ≡ Some e
    → is_some (entry_if (cell_at row.Texts c) (Some (shape.Text (encoding_of u)))) ≡ true
text_tells known u c d e h =
    row_entry row.Texts c (option_and_then (shape_of_form known) (option_map form.Text (encoding_by u d))) (shape.Text (encoding_of u)) e refl h

row_tells : (known : Known) (u : Bool) (c : Column) (k : Kind) (d : Descriptor) (e : Entry)
    → entry_if (cell_at (row_form u k d).row c) (option_and_then (shape_of_form known) (row_form u k d).form) ≡ Some e
    → is_some (entry_if (cell_at (row_form u k Nothing).row c) (option_and_then (shape_of_form known) (row_form u k Nothing).form)) ≡ true
row_tells known u c (kind.Integer width signed) d e h = row_entry row.Integers c _ _ e refl h
row_tells known u c (kind.NativeInteger signed) d e h = row_entry row.Integers c _ _ e refl h
row_tells known u c kind.Boolean d e h = row_entry row.Booleans c _ _ e refl h
row_tells known u c kind.Character d e h = row_entry row.Characters c _ _ e refl h
row_tells known u c kind.Pointer d e h = row_entry row.Pointers c _ _ e refl h
row_tells known u c kind.Text (Is (ByValText count)) e h = text_entry c _ _ e h
row_tells known u c kind.Text Nothing e h = text_tells known u c Nothing e h
row_tells known u c kind.Text Unread e h = text_tells known u c Unread e h
row_tells known u c kind.Text (Is (Plain code)) e h = text_tells known u c (Is (Plain code)) e h
row_tells known u c kind.Text (Is (ByValArray count code)) e h = text_tells known u c (Is (ByValArray count code)) e h
row_tells known u c kind.Text (Is (LpArray code parameter count flag)) e h = text_tells known u c (Is (LpArray code parameter count flag)) e h
row_tells known u c (kind.Struct ty) d e h = if_plain known (cell_at row.Structs c) (is_plain 0x1B d) (form.Struct ty) e h
row_tells known u c (kind.Delegate ty) d e h = if_plain known (cell_at row.Delegates c) (is_plain 0x26 d) (form.Thunk ty) e h
row_tells known u c kind.Handle d e h = row_entry row.Handles c _ _ e refl h
row_tells known u c kind.Other d e h = absurd (nothing_there (cell_at row.Integers c) e h)

one_tells : (known : Known) (u : Bool) (c : Column) (k : Kind) (d : Descriptor) (e : Entry) → first_entry (λ r. one_by known u r k d) c rows ≡ Some e
    → is_some (first_entry (λ r. one_by known u r k Nothing) c rows) ≡ true
one_tells known u c k d e h =
    ap is_some (the_entry known u c k Nothing) ∙ row_tells known u c k d e (sym (the_entry known u c k d) ∙ h)

-- ---- arrays

pub record Held {A : Type 0} (o : Option A) : Type 0 where
  pub value : A
  pub is : o ≡ Some value

held : {A : Type 0} (o : Option A) → is_some o ≡ true → Held o
held None h = absurd (cc)
held (Some a) h = record { value = a; is = refl }

-- an array in a field crosses as one element without a descriptor does
in_place : (known : Known) (u : Bool) (base : ℕ) (k : Kind) (s : Shape) → element_by known u column.InlineElement k None ≡ Some s
    → is_some (entry_by known u column.Field (Array base k) (Is (ByValArray 1 None))) ≡ true
in_place known u base k s h =
    ap (λ (o : Option Shape). is_some (or_else (entry_if cell.Part (option_map (λ (x : Shape). shape.InlineArray base x 1) o)) None)) h

element_tells : (known : Known) (u : Bool) (c : Column) (k : Kind) (code : Option ℕ) (s : Shape) → element_by known u c k code ≡ Some s
    → Held (element_by known u c k None)
element_tells known u c k code s h =
    let m = mapped_some (λ (e : Entry). e.shape) (first_entry (λ r. one_by known u r k (described code)) c rows) s h in
    let n = held (first_entry (λ r. one_by known u r k Nothing) c rows) (one_tells known u c k (described code) m.value m.was) in
    record { value = n.value.shape; is = ap (option_map (λ (e : Entry). e.shape)) n.is }

field_row_tells : (known : Known) (u : Bool) (base : ℕ) (k : Kind) (d : Descriptor) (r : Row) (e : Entry)
    → entry_if (cell_at r column.Field) (shape_by known u r (Array base k) d) ≡ Some e → Held (element_by known u column.InlineElement k None)
field_row_tells known u base k d row.FlatArrays e h = absurd (outside (shape_by known u row.FlatArrays (Array base k) d) e h)
field_row_tells known u base k d row.OtherArrays e h = absurd (outside (shape_by known u row.OtherArrays (Array base k) d) e h)
field_row_tells known u base k (Is (ByValArray count code)) row.InlineArrays e h =
    let there = entered cell.Part (shape_by known u row.InlineArrays (Array base k) (Is (ByValArray count code))) e h in
    let made = when_some _ (option_map (λ (x : Shape). shape.InlineArray base x count) (element_by known u column.InlineElement k code)) e.shape there in
    let m = mapped_some (λ (x : Shape). shape.InlineArray base x count) (element_by known u column.InlineElement k code) e.shape made in
    element_tells known u column.InlineElement k code m.value m.was
field_row_tells known u base k d _ e h = absurd (cc)

field_array_tells : (known : Known) (u : Bool) (base : ℕ) (k : Kind) (d : Descriptor) (e : Entry) → entry_by known u column.Field (Array base k) d ≡ Some e
    → is_some (entry_by known u column.Field (Array base k) (Is (ByValArray 1 None))) ≡ true
field_array_tells known u base k d e h =
    let i = first_in_row (λ r. shape_by known u r (Array base k) d) column.Field rows e h in
    let s = field_row_tells known u base k d i.row e i.is in
    in_place known u base k s.value s.is

-- whether the elements of an array are flat, whatever their descriptor, unless they are characters
abbrev is_character : Kind → Bool
is_character kind.Character = true
is_character _ = false

abbrev struct_flat : Option StructShape → Bool
struct_flat None = false
struct_flat (Some s) = flat (shape.Struct s)

abbrev element_flat : Known → Kind → Bool
element_flat known (kind.Integer width signed) = true
element_flat known (kind.NativeInteger signed) = true
element_flat known kind.Pointer = true
element_flat known kind.Handle = true
element_flat known (kind.Struct ty) = struct_flat (known.struct_of ty)
element_flat known _ = false

same_flat : (s t : Shape) (b : Bool) → s ≡ t → flat s ≡ b → flat t ≡ b
same_flat s t b e h = ap flat (sym e) ∙ h

some_same : {A : Type 0} (x y : A) → Some x ≡ Some y → x ≡ y
some_same x y e = cc

text_flat : (known : Known) (o : Option Enc) (s : Shape) → option_and_then (shape_of_form known) (option_map form.Text o) ≡ Some s → flat s ≡ false
text_flat known None s h = absurd (cc)
text_flat known (Some e) s h = same_flat (shape.Text e) s false (some_same (shape.Text e) s h) (flat_text e)

int_flat : (known : Known) (w : Width) (o : Option Bool) (s : Shape) → option_and_then (shape_of_form known) (option_map (form.Int w) o) ≡ Some s → flat s ≡ true
int_flat known w None s h = absurd (cc)
int_flat known w (Some b) s h = same_flat (shape.Int (bytes w) b) s true (some_same (shape.Int (bytes w) b) s h) (flat_int (bytes w) b)

native_flat : (known : Known) (o : Option Bool) (s : Shape) → option_and_then (shape_of_form known) (option_map form.Native o) ≡ Some s → flat s ≡ true
native_flat known None s h = absurd (cc)
native_flat known (Some b) s h = same_flat (shape.Native b) s true (some_same (shape.Native b) s h) (flat_native b)

bool_flat : (known : Known) (o : Option Width) (s : Shape) → option_and_then (shape_of_form known) (option_map form.Bool o) ≡ Some s → flat s ≡ false
bool_flat known None s h = absurd (cc)
bool_flat known (Some w) s h = same_flat (shape.Bool (bytes w)) s false (some_same (shape.Bool (bytes w)) s h) (flat_bool (bytes w))

struct_flat_is : (known : Known) (ty : ℕ) (b : Bool) (s : Shape) → option_and_then (shape_of_form known) (when b (Some (form.Struct ty))) ≡ Some s → flat s ≡ element_flat known (kind.Struct ty)
struct_flat_is known ty false s h = absurd (cc)
struct_flat_is known ty true s h =
    let m = mapped_some shape.Struct (known.struct_of ty) s h in
    same_flat (shape.Struct m.value) s (struct_flat (known.struct_of ty)) m.is (ap struct_flat (sym m.was))

delegate_flat : (known : Known) (ty : ℕ) (b : Bool) (s : Shape) → option_and_then (shape_of_form known) (when b (Some (form.Thunk ty))) ≡ Some s → flat s ≡ false
delegate_flat known ty false s h = absurd (cc)
delegate_flat known ty true s h =
    let there = when_some (known.is_callable ty) (Some (shape.Thunk ty)) s h in
    same_flat (shape.Thunk ty) s false (some_same (shape.Thunk ty) s there) (flat_thunk ty)

pointer_flat : (known : Known) (d : Descriptor) (s : Shape) → option_and_then (shape_of_form known) (without_descriptor d (form.Native true)) ≡ Some s → flat s ≡ true
pointer_flat known Nothing s h = same_flat (shape.Native true) s true (some_same (shape.Native true) s h) (flat_native true)
pointer_flat known _ s h = absurd (cc)

flat_is : (known : Known) (u : Bool) (k : Kind) (code : Option ℕ) (s : Shape) → is_character k ≡ false
    → option_and_then (shape_of_form known) (row_form u k (described code)).form ≡ Some s → flat s ≡ element_flat known k
flat_is known u (kind.Integer width signed) code s other h = int_flat known width (sign_by width signed (described code)) s h
flat_is known u (kind.NativeInteger signed) code s other h = native_flat known (sign_by Eight signed (described code)) s h
flat_is known u kind.Boolean code s other h = bool_flat known (bool_width_by (described code)) s h
flat_is known u kind.Character code s other h = absurd (cc)
flat_is known u kind.Pointer code s other h = pointer_flat known (described code) s h
flat_is known u kind.Text None s other h = text_flat known (encoding_by u Nothing) s h
flat_is known u kind.Text (Some code) s other h = text_flat known (encoding_by u (Is (Plain code))) s h
flat_is known u (kind.Struct ty) code s other h = struct_flat_is known ty (is_plain 0x1B (described code)) s h
flat_is known u (kind.Delegate ty) code s other h = delegate_flat known ty (is_plain 0x26 (described code)) s h
flat_is known u kind.Handle code s other h = pointer_flat known (described code) s h
flat_is known u kind.Other code s other h = absurd (cc)

entry_flat : (known : Known) (u : Bool) (k : Kind) (code : Option ℕ) (e : Entry) → is_character k ≡ false
    → first_entry (λ r. one_by known u r k (described code)) column.Element rows ≡ Some e → flat e.shape ≡ element_flat known k
entry_flat known u k code e other h =
    flat_is known u k code e.shape other
    (entered (cell_at (row_form u k (described code)).row column.Element) (option_and_then (shape_of_form known) (row_form u k (described code)).form) e
    (sym (the_entry known u column.Element k (described code)) ∙ h))

-- the row of an array behind a pointer
abbrev array_row : Bool → Row
array_row b = cond b row.FlatArrays row.OtherArrays

array_row_plain : (b : Bool) → is_struct_row (array_row b) ≡ false
array_row_plain true = refl
array_row_plain false = refl

record Pointed (c : Column) (o : Option Shape) (e : Entry) : Type 0 where
  value : Shape
  was : o ≡ Some value
  then : entry_if (cell_at (array_row (flat value)) c) (Some value) ≡ Some e

pointed_there : (c : Column) (o : Option Shape) (e : Entry) → pointed c o ≡ Some e → Pointed c o e
pointed_there c None e h = absurd (cc)
pointed_there c (Some s) e h = record { value = s; was = refl; then = h }

pointed_tells : (known : Known) (u : Bool) (c : Column) (k : Kind) (code : Option ℕ) (e : Entry) → is_character k ≡ false
    → pointed c (element_by known u column.Element k code) ≡ Some e → is_some (pointed c (element_by known u column.Element k None)) ≡ true
pointed_tells known u c k code e other h =
    let p = pointed_there c (element_by known u column.Element k code) e h in
    let m = mapped_some (λ (x : Entry). x.shape) (first_entry (λ r. one_by known u r k (described code)) column.Element rows) p.value p.was in
    let n = held (first_entry (λ r. one_by known u r k Nothing) column.Element rows) (one_tells known u column.Element k (described code) m.value m.was) in
    let this : flat p.value ≡ element_flat known k = ap flat (sym m.is) ∙ entry_flat known u k code m.value other m.was in
    let bare : flat n.value.shape ≡ element_flat known k = entry_flat known u k None n.value other n.is in
    let crossed : is_some (entry_if (cell_at (array_row (flat p.value)) c) (Some n.value.shape)) ≡ true =
    row_entry (array_row (flat p.value)) c (Some p.value) n.value.shape e (array_row_plain (flat p.value)) p.then in
    ap (λ (o : Option Entry). is_some (pointed c (option_map (λ (x : Entry). x.shape) o))) n.is
    ∙ ap (λ (b : Bool). is_some (entry_if (cell_at (array_row b) c) (Some n.value.shape))) (bare ∙ sym this)
    ∙ crossed

-- an array of characters crosses as one of two bytes each does
characters_tell : (c : Column) (b : Bool) (s : Shape) (e : Entry) → entry_if (cell_at (array_row b) c) (Some s) ≡ Some e
    → is_some (pointed c (Some (shape.Char 2))) ≡ true
characters_tell c true s e h =
    ap (λ (b : Bool). is_some (entry_if (cell_at (array_row b) c) (Some (shape.Char 2)))) (flat_char 2)
    ∙ row_entry row.FlatArrays c (Some s) (shape.Char 2) e refl h
characters_tell c false s e h =
    ap (λ (b : Bool). is_some (entry_if (cell_at (array_row b) c) (Some (shape.Char 2)))) (flat_char 2)
    ∙ flat_entry c (Some s) (shape.Char 2) e h

-- ---- all together

-- the first, the third or the last of five answers
first_of : (a b c d e : Bool) → a ≡ true → (a || (b || (c || (d || (e || false))))) ≡ true
first_of true b c d e h = refl
first_of false b c d e h = absurd (cc)

third_of : (a b c d e : Bool) → c ≡ true → (a || (b || (c || (d || (e || false))))) ≡ true
third_of true b c d e h = refl
third_of false true c d e h = refl
third_of false false true d e h = refl
third_of false false false d e h = absurd (cc)

last_of : (a b c d e : Bool) → e ≡ true → (a || (b || (c || (d || (e || false))))) ≡ true
last_of true b c d e h = refl
last_of false true c d e h = refl
last_of false false true d e h = refl
last_of false false false true e h = refl
last_of false false false false true h = refl
last_of false false false false false h = absurd (cc)

module _ (known : Known) (u : Bool) (c : Column) (t : TypeKind) where
  abbrev under : Descriptor → Bool
  under d = is_some (entry_by known u c t d)

  abbrev narrow : Descriptor
  narrow = Is (LpArray (Some 0x04) None None None)

  abbrev wide : Descriptor
  wide = Is (LpArray (Some 0x06) None None None)

  by_none : is_some (entry_by known u c t Nothing) ≡ true → crosses known u c t ≡ true
  by_none h = first_of (under Nothing) (under (Is (ByValText 1))) (under (Is (ByValArray 1 None))) (under narrow) (under wide) h

  by_array : is_some (entry_by known u c t (Is (ByValArray 1 None))) ≡ true → crosses known u c t ≡ true
  by_array h = third_of (under Nothing) (under (Is (ByValText 1))) (under (Is (ByValArray 1 None))) (under narrow) (under wide) h

  by_wide : is_some (entry_by known u c t (Is (LpArray (Some 0x06) None None None))) ≡ true → crosses known u c t ≡ true
  by_wide h = last_of (under Nothing) (under (Is (ByValText 1))) (under (Is (ByValArray 1 None))) (under narrow) (under wide) h

module _ (known : Known) (u : Bool) (c : Column) (outside_fields : c ≢ column.Field) (base : ℕ) where
  array_by_code : (k : Kind) (code : Option ℕ) (e : Entry) → pointed c (element_by known u column.Element k code) ≡ Some e → crosses known u c (Array base k) ≡ true
  array_by_code kind.Character code e h =
      let p = pointed_there c (element_by known u column.Element kind.Character code) e h in
      by_wide known u c (Array base kind.Character)
      (ap is_some (the_array known u c outside_fields base kind.Character (Is (LpArray (Some 0x06) None None None))) ∙ characters_tell c (flat p.value) p.value e p.then)
  array_by_code k code e h =
      by_none known u c (Array base k) (ap is_some (the_array known u c outside_fields base k Nothing) ∙ pointed_tells known u c k code e refl h)

  array_behind : (k : Kind) (d : Descriptor) (e : Entry) → pointed c (behind_pointer known u k d) ≡ Some e → crosses known u c (Array base k) ≡ true
  array_behind k Nothing e h = array_by_code k None e h
  array_behind k (Is (LpArray code parameter count flag)) e h = array_by_code k code e h
  array_behind k _ e h = absurd (cc)

  array_tells : (k : Kind) (d : Descriptor) (e : Entry) → entry_by known u c (Array base k) d ≡ Some e → crosses known u c (Array base k) ≡ true
  array_tells k d e h = array_behind k d e (sym (the_array known u c outside_fields base k d) ∙ h)

entry_tells : (known : Known) (u : Bool) (c : Column) (t : TypeKind) (d : Descriptor) (e : Entry) → entry_by known u c t d ≡ Some e → crosses known u c t ≡ true
entry_tells known u c (One k) d e h = by_none known u c (One k) (one_tells known u c k d e h)
entry_tells known u column.Field (Array base k) d e h =
    by_array known u column.Field (Array base k) (field_array_tells known u base k d e h)
entry_tells known u c (Array base k) d e h = array_tells known u c (λ same. cc) base k d e h

either : (a b : Bool) → (a || b) ≡ true → (a ≡ true) ⊎ (b ≡ true)
either true b h = inl refl
either false b h = inr h

listed_tells : (known : Known) (u : Bool) (c : Column) (t : TypeKind) (ds : List Descriptor) → list_any (λ d. is_some (entry_by known u c t d)) ds ≡ true
    → Crosses known u c t
listed_tells known u c t [] h = absurd (cc)
listed_tells known u c t (d ∷ ds) h =
    elim (either (is_some (entry_by known u c t d)) (list_any (λ d. is_some (entry_by known u c t d)) ds) h) [
      | inl here ↦ let e = held (entry_by known u c t d) here in (d, e.value, e.is)
      | inr there ↦ listed_tells known u c t ds there
    ]

pub five_tell : (known : Known) (u : Bool) (c : Column) (t : TypeKind) → IsTold known u c t
five_tell known u c t = record {
  there = λ h. listed_tells known u c t simplest_descriptors h;
  told = λ h. entry_tells known u c t h.0 h.1 h.2;
}
