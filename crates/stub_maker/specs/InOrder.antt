-- Each width in a shape that the rule over the table gives is one that its kind has.
use Rattle.std.specs.Prelude.{◌≡◌, ℕ, ◌+◌, zero, suc, Bool, true, false, ◌&&◌, ◌==◌, nat_le, List, [], ◌∷◌, map, Option, Some, None, option_map, option_and_then, find, not, cond}
use Rattle.std.specs.List.{list_all, list_any}
use Rattle.std.proofs.lemmas.List.Folds.{list_all-map}
use Rattle.std.proofs.Common.{◌⊎◌, inl, inr, refl, sym, ap, subst, rules, ◌∙◌}
use Rattle.native_layout.specs.declared.shapes.Enc.{Enc}
use Rattle.native_layout.specs.declared.shapes.Shape as shape
use Rattle.native_layout.specs.declared.shapes.Shape.{Shape, the_lemmas}
use Rattle.native_layout.specs.declared.shapes.StructShape.{StructShape}
use Rattle.native_layout.specs.Shapes.{flat, in_order, struct_in_order}
use Rattle.marshal_spec.specs.declared.spec.Spec.TheVariants.{Plain, ByValText, ByValArray, LpArray}
use Rattle.stub_maker.specs.declared.kinds.Width.{Width}
use Rattle.stub_maker.specs.declared.kinds.Width.TheVariants.{One as Narrow, Two, Four, Eight}
use Rattle.stub_maker.specs.declared.kinds.Kind.{Kind}
use Rattle.stub_maker.specs.declared.kinds.Kind.TheVariants as kind
use Rattle.stub_maker.specs.declared.kinds.Form.{Form}
use Rattle.stub_maker.specs.declared.kinds.Form.TheVariants as form
use Rattle.stub_maker.specs.declared.kinds.TypeKind.{TypeKind}
use Rattle.stub_maker.specs.declared.kinds.TypeKind.TheVariants.{One, Array}
use Rattle.stub_maker.specs.declared.kinds.Descriptor.{Descriptor}
use Rattle.stub_maker.specs.declared.kinds.Descriptor.TheVariants.{Nothing, Is}
use Rattle.stub_maker.specs.declared.table.Row.{Row}
use Rattle.stub_maker.specs.declared.table.Row.TheVariants as row
use Rattle.stub_maker.specs.declared.table.Column.{Column}
use Rattle.stub_maker.specs.declared.table.Column.TheVariants as column
use Rattle.stub_maker.specs.declared.table.Cell.{Cell}
use Rattle.stub_maker.specs.declared.facts.FieldFacts.{FieldFacts}
use Rattle.stub_maker.specs.declared.facts.StructFacts.{StructFacts}
use Rattle.stub_maker.specs.Table.{admits, cell_at, rows}
use Rattle.stub_maker.specs.Forms.{bool_width_by, by_code, bytes, char_width_by, encoding_by, encoding_of, form_by, is_plain, sign_by, when}
use Rattle.stub_maker.specs.Shapes.{Entry, Known, behind_pointer, described, element_by, entry_by, entry_if, first_entry, flat_one, one_by, or_else, other_one, shape_by, shape_of_form}
use Rattle.stub_maker.specs.Facts.{TypeFacts, all_some, field_shape, known_after, struct_shape}
use Rattle.stub_maker.specs.Sized.{IsInOrder}
use Rattle.stub_maker.specs.Described.{facts_of, known_of}
use Rattle.type_model.specs.Module.{Module}

-- ---- options that are there

pub record Joined {A B : Type 0} (f : A → Option B) (o : Option A) (b : B) : Type 0 where
  pub value : A
  pub was : o ≡ Some value
  pub then : f value ≡ Some b

pub joined_some : {A B : Type 0} (f : A → Option B) (o : Option A) (b : B) → option_and_then f o ≡ Some b → Joined f o b
joined_some f None b h = absurd (cc)
joined_some f (Some a) b h = record { value = a; was = refl; then = h }

pub record Mapped {A B : Type 0} (f : A → B) (o : Option A) (b : B) : Type 0 where
  pub value : A
  pub was : o ≡ Some value
  pub is : f value ≡ b

pub mapped_some : {A B : Type 0} (f : A → B) (o : Option A) (b : B) → option_map f o ≡ Some b → Mapped f o b
mapped_some f None b h = absurd (cc)
mapped_some f (Some a) b h = record { value = a; was = refl; is = cc }

pub when_some : {A : Type 0} (b : Bool) (o : Option A) (a : A) → when b o ≡ Some a → o ≡ Some a
when_some true o a h = h
when_some false o a h = absurd (cc)

or_some : {A : Type 0} (o rest : Option A) (a : A) → or_else o rest ≡ Some a → (o ≡ Some a) ⊎ (rest ≡ Some a)
or_some (Some x) rest a h = inl h
or_some None rest a h = inr h

-- ---- the row of an entry

pub entered : (c : Cell) (o : Option Shape) (e : Entry) → entry_if c o ≡ Some e → o ≡ Some e.shape
entered c None e h = absurd (cc)
entered c (Some s) e h =
    let same : Some (record { cell = c; shape = s }) ≡ Some e = when_some (admits c (flat s) _) (Some (record { cell = c; shape = s })) e h in
    ap (option_map (λ (x : Entry). x.shape)) same

pub record InRow (shape_in : Row → Option Shape) (column : Column) (e : Entry) : Type 0 where
  pub row : Row
  pub is : entry_if (cell_at row column) (shape_in row) ≡ Some e

pub first_in_row : (shape_in : Row → Option Shape) (column : Column) (rs : List Row) (e : Entry) → first_entry shape_in column rs ≡ Some e → InRow shape_in column e
first_in_row shape_in column [] e h = absurd (cc)
first_in_row shape_in column (r ∷ rs) e h =
    elim (or_some (entry_if (cell_at r column) (shape_in r)) (first_entry shape_in column rs) e h) [
      | inl here ↦ record { row = r; is = here }
      | inr there ↦ first_in_row shape_in column rs e there
    ]

-- ---- forms

-- the width of a form is one that its kind has
abbrev pub form_in_order : Form → Bool
form_in_order (form.Bool width) = list_any (λ w. w == bytes width) (1 ∷ 4 ∷ [])
form_in_order (form.Char width) = list_any (λ w. w == bytes width) (1 ∷ 2 ∷ [])
form_in_order _ = true

left_true : (a b : Bool) → (a && b) ≡ true → a ≡ true
left_true true b h = refl
left_true false b h = absurd (cc)

right_true : (a b : Bool) → (a && b) ≡ true → b ≡ true
right_true true b h = h
right_true false b h = absurd (cc)

both_true : (a b : Bool) → a ≡ true → b ≡ true → (a && b) ≡ true
both_true true b x y = y
both_true false b x y = absurd (cc)

pub record AllThere {A : Type 0} (o : Option A) (os : List (Option A)) (values : List A) : Type 0 where
  pub first : A
  pub others : List A
  pub was : o ≡ Some first
  pub were : all_some os ≡ Some others
  pub are : first ∷ others ≡ values

pub all_there : {A : Type 0} (o : Option A) (os : List (Option A)) (values : List A) → all_some (o ∷ os) ≡ Some values → AllThere o os values
all_there None os values h = absurd (cc)
all_there {A} (Some a) os values h =
    let m = mapped_some (λ (rest : List A). a ∷ rest) (all_some os) values h in
    record { first = a; others = m.value; was = refl; were = m.was; are = m.is }

-- a struct with its fields
abbrev struct_with : StructFacts → List Shape → StructShape
struct_with facts shapes = record {
  ty = facts.ty;
  pack = facts.pack;
  least = facts.least;
  explicit = facts.explicit;
  fields = shapes;
  offsets = map (λ f. f.offset) facts.fields;
}

found_passes : {A : Type 0} (p : A → Bool) (values : List (ℕ × A)) (code : ℕ) (a : A)
    → list_all (λ v. p v.1) values ≡ true → by_code values code ≡ Some a → p a ≡ true
found_passes p [] code a all h = absurd (cc)
found_passes {A} p (v ∷ values) code a all h =
    (elim (v.0 == code) as (λ b. option_map (λ (w : ℕ × A). w.1) (cond b (Some v) (find (λ (w : ℕ × A). w.0 == code) values)) ≡ Some a → p a ≡ true) [
      | true ↦ λ here. let same : v.1 ≡ a = cc in let P : A → Type 0 = λ x. p x ≡ true in subst P same (left_true (p v.1) (list_all (λ w. p w.1) values) all)
      | false ↦ λ there. found_passes p values code a (right_true (p v.1) (list_all (λ w. p w.1) values) all) there
    ]) h

bool_in_order : (d : Descriptor) (w : Width) → bool_width_by d ≡ Some w → form_in_order (form.Bool w) ≡ true
bool_in_order Nothing w h = let same : Four ≡ w = cc in let P : Width → Type 0 = λ x. form_in_order (form.Bool x) ≡ true in subst P same refl
bool_in_order (Is (Plain code)) w h =
    found_passes (λ x. form_in_order (form.Bool x)) ((0x02, Four) ∷ (0x03, Narrow) ∷ (0x04, Narrow) ∷ []) code w refl h
bool_in_order _ w h = absurd (cc)

char_in_order : (u : Bool) (d : Descriptor) (w : Width) → char_width_by u d ≡ Some w → form_in_order (form.Char w) ≡ true
char_in_order true Nothing w h = let same : Two ≡ w = cc in let P : Width → Type 0 = λ x. form_in_order (form.Char x) ≡ true in subst P same refl
char_in_order false Nothing w h = let same : Narrow ≡ w = cc in let P : Width → Type 0 = λ x. form_in_order (form.Char x) ≡ true in subst P same refl
char_in_order u (Is (Plain code)) w h =
    found_passes (λ x. form_in_order (form.Char x)) ((0x03, Narrow) ∷ (0x04, Narrow) ∷ (0x05, Two) ∷ (0x06, Two) ∷ []) code w refl h
char_in_order u _ w h = absurd (cc)

same_form : (f g : Form) → f ≡ g → form_in_order f ≡ true → form_in_order g ≡ true
same_form f g e h = let P : Form → Type 0 = λ x. form_in_order x ≡ true in subst P e h

pub form_by_in_order : (u : Bool) (r : Row) (k : Kind) (d : Descriptor) (f : Form) → form_by u r k d ≡ Some f → form_in_order f ≡ true
form_by_in_order u row.Integers (kind.Integer width signed) d f h =
    let m = mapped_some (form.Int width) (sign_by width signed d) f h in same_form (form.Int width m.value) f m.is refl
form_by_in_order u row.Integers (kind.NativeInteger signed) d f h =
    let m = mapped_some form.Native (sign_by Eight signed d) f h in same_form (form.Native m.value) f m.is refl
form_by_in_order u row.Booleans kind.Boolean d f h =
    let m = mapped_some form.Bool (bool_width_by d) f h in same_form (form.Bool m.value) f m.is (bool_in_order d m.value m.was)
form_by_in_order u row.Characters kind.Character d f h =
    let m = mapped_some form.Char (char_width_by u d) f h in same_form (form.Char m.value) f m.is (char_in_order u d m.value m.was)
form_by_in_order u row.Pointers kind.Pointer Nothing f h = let same : form.Native true ≡ f = cc in same_form (form.Native true) f same refl
form_by_in_order u row.Texts kind.Text d f h =
    let m = mapped_some form.Text (encoding_by u d) f h in same_form (form.Text m.value) f m.is refl
form_by_in_order u row.InlineTexts kind.Text (Is (ByValText count)) f h =
    let there = when_some (nat_le 1 count) (Some (form.InlineText (encoding_of u) count)) f h in
    let same : form.InlineText (encoding_of u) count ≡ f = cc in same_form (form.InlineText (encoding_of u) count) f same refl
form_by_in_order u row.Structs (kind.Struct ty) d f h =
    let there = when_some (is_plain 0x1B d) (Some (form.Struct ty)) f h in
    let same : form.Struct ty ≡ f = cc in same_form (form.Struct ty) f same refl
form_by_in_order u row.Delegates (kind.Delegate ty) d f h =
    let there = when_some (is_plain 0x26 d) (Some (form.Thunk ty)) f h in
    let same : form.Thunk ty ≡ f = cc in same_form (form.Thunk ty) f same refl
form_by_in_order u row.Handles kind.Handle Nothing f h = let same : form.Native true ≡ f = cc in same_form (form.Native true) f same refl
form_by_in_order u _ _ _ f h = absurd (cc)

-- ---- shapes

int_order : (w : ℕ) (signed : Bool) → in_order (shape.Int w signed) ≡ list_any (λ v. v == w) (1 ∷ 2 ∷ 4 ∷ 8 ∷ [])
int_order w signed = search (rules, the_lemmas)

bool_order : (w : ℕ) → in_order (shape.Bool w) ≡ list_any (λ v. v == w) (1 ∷ 4 ∷ [])
bool_order w = search (rules, the_lemmas)

char_order : (w : ℕ) → in_order (shape.Char w) ≡ list_any (λ v. v == w) (1 ∷ 2 ∷ [])
char_order w = search (rules, the_lemmas)

native_order : (signed : Bool) → in_order (shape.Native signed) ≡ true
native_order signed = search (rules, the_lemmas)

text_order : (e : Enc) → in_order (shape.Text e) ≡ true
text_order e = search (rules, the_lemmas)

inline_text_order : (e : Enc) (count : ℕ) → in_order (shape.InlineText e count) ≡ true
inline_text_order e count = search (rules, the_lemmas)

thunk_order : (ty : ℕ) → in_order (shape.Thunk ty) ≡ true
thunk_order ty = search (rules, the_lemmas)

array_order : (base : ℕ) (s : Shape) (count : ℕ) → in_order (shape.InlineArray base s count) ≡ in_order s
array_order base s count = search (rules, the_lemmas)

struct_order : (s : StructShape) → in_order (shape.Struct s) ≡ struct_in_order s
struct_order s =
    let one : in_order (shape.Struct s) ≡ list_all (λ f. f) (map in_order s.fields) = search (rules, the_lemmas) in
    one ∙ list_all-map (λ f. f) in_order s.fields

width_order : (w : Width) (signed : Bool) → in_order (shape.Int (bytes w) signed) ≡ true
width_order Narrow signed = int_order 1 signed
width_order Two signed = int_order 2 signed
width_order Four signed = int_order 4 signed
width_order Eight signed = int_order 8 signed

same_shape : (s t : Shape) → s ≡ t → in_order s ≡ true → in_order t ≡ true
same_shape s t e h = let P : Shape → Type 0 = λ x. in_order x ≡ true in subst P e h

module _ (known : Known) (ordered : IsInOrder known) where
  shape_in_order : (f : Form) (s : Shape) → form_in_order f ≡ true → shape_of_form known f ≡ Some s → in_order s ≡ true
  shape_in_order (form.Int w signed) s o h = let same : shape.Int (bytes w) signed ≡ s = cc in same_shape (shape.Int (bytes w) signed) s same (width_order w signed)
  shape_in_order (form.Native signed) s o h = let same : shape.Native signed ≡ s = cc in same_shape (shape.Native signed) s same (native_order signed)
  shape_in_order (form.Bool w) s o h = let same : shape.Bool (bytes w) ≡ s = cc in same_shape (shape.Bool (bytes w)) s same (bool_order (bytes w) ∙ o)
  shape_in_order (form.Char w) s o h = let same : shape.Char (bytes w) ≡ s = cc in same_shape (shape.Char (bytes w)) s same (char_order (bytes w) ∙ o)
  shape_in_order (form.Text e) s o h = let same : shape.Text e ≡ s = cc in same_shape (shape.Text e) s same (text_order e)
  shape_in_order (form.InlineText e count) s o h = let same : shape.InlineText e count ≡ s = cc in same_shape (shape.InlineText e count) s same (inline_text_order e count)
  shape_in_order (form.Struct ty) s o h =
      let m = mapped_some shape.Struct (known.struct_of ty) s h in
      same_shape (shape.Struct m.value) s m.is (struct_order m.value ∙ ordered ty m.value m.was)
  shape_in_order (form.Thunk ty) s o h =
      let there = when_some (known.is_callable ty) (Some (shape.Thunk ty)) s h in
      let same : shape.Thunk ty ≡ s = cc in same_shape (shape.Thunk ty) s same (thunk_order ty)

  one_in_order : (u : Bool) (r : Row) (k : Kind) (d : Descriptor) (s : Shape) → one_by known u r k d ≡ Some s → in_order s ≡ true
  one_in_order u r k d s h =
      let j = joined_some (shape_of_form known) (form_by u r k d) s h in
      shape_in_order j.value s (form_by_in_order u r k d j.value j.was) j.then

  element_in_order : (u : Bool) (c : Column) (k : Kind) (code : Option ℕ) (s : Shape) → element_by known u c k code ≡ Some s → in_order s ≡ true
  element_in_order u c k code s h =
      let m = mapped_some (λ (e : Entry). e.shape) (first_entry (λ r. one_by known u r k (described code)) c rows) s h in
      let i = first_in_row (λ r. one_by known u r k (described code)) c rows m.value m.was in
      let there : one_by known u i.row k (described code) ≡ Some m.value.shape = entered (cell_at i.row c) (one_by known u i.row k (described code)) m.value i.is in
      same_shape m.value.shape s m.is (one_in_order u i.row k (described code) m.value.shape there)

  behind_in_order : (u : Bool) (k : Kind) (d : Descriptor) (s : Shape) → behind_pointer known u k d ≡ Some s → in_order s ≡ true
  behind_in_order u k Nothing s h = element_in_order u column.Element k None s h
  behind_in_order u k (Is (LpArray code parameter count flag)) s h = element_in_order u column.Element k code s h
  behind_in_order u k _ s h = absurd (cc)

  -- a type's shape by any row
  row_in_order : (u : Bool) (r : Row) (type : TypeKind) (d : Descriptor) (s : Shape) → shape_by known u r type d ≡ Some s → in_order s ≡ true
  row_in_order u r (One k) d s h = one_in_order u r k d s h
  row_in_order u row.FlatArrays (Array base k) d s h =
      let j = joined_some flat_one (behind_pointer known u k d) s h in
      let there = when_some (flat j.value) (Some j.value) s j.then in
      let same : j.value ≡ s = cc in same_shape j.value s same (behind_in_order u k d j.value j.was)
  row_in_order u row.OtherArrays (Array base k) d s h =
      let j = joined_some other_one (behind_pointer known u k d) s h in
      let there = when_some (not (flat j.value)) (Some j.value) s j.then in
      let same : j.value ≡ s = cc in same_shape j.value s same (behind_in_order u k d j.value j.was)
  row_in_order u row.InlineArrays (Array base k) (Is (ByValArray count code)) s h =
      let there = when_some (nat_le 1 count) (option_map (λ (x : Shape). shape.InlineArray base x count) (element_by known u column.InlineElement k code)) s h in
      let m = mapped_some (λ (x : Shape). shape.InlineArray base x count) (element_by known u column.InlineElement k code) s there in
      same_shape (shape.InlineArray base m.value count) s m.is (array_order base m.value count ∙ element_in_order u column.InlineElement k code m.value m.was)
  row_in_order u _ (Array base k) d s h = absurd (cc)

  -- what the rule answers is in order
  pub entry_in_order : (u : Bool) (c : Column) (type : TypeKind) (d : Descriptor) (e : Entry) → entry_by known u c type d ≡ Some e → in_order e.shape ≡ true
  entry_in_order u c type d e h =
      let i = first_in_row (λ r. shape_by known u r type d) c rows e h in
      row_in_order u i.row type d e.shape (entered (cell_at i.row c) (shape_by known u i.row type d) e i.is)

  field_in_order : (f : FieldFacts) (s : Shape) → field_shape known f ≡ Some s → in_order s ≡ true
  field_in_order f s h =
      let m = mapped_some (λ (e : Entry). e.shape) (entry_by known f.unicode column.Field f.kind f.descriptor) s h in
      same_shape m.value.shape s m.is (entry_in_order f.unicode column.Field f.kind f.descriptor m.value m.was)

  fields_in_order : (fs : List FieldFacts) (shapes : List Shape) → all_some (map (field_shape known) fs) ≡ Some shapes → list_all in_order shapes ≡ true
  fields_in_order [] shapes h = let same : [] ≡ shapes = cc in ap (list_all in_order) (sym same)
  fields_in_order (f ∷ fs) shapes h =
      let a = all_there (field_shape known f) (map (field_shape known) fs) shapes h in
      ap (list_all in_order) (sym a.are) ∙ both_true (in_order a.first) (list_all in_order a.others) (field_in_order f a.first a.was) (fields_in_order fs a.others a.were)

  struct_shape_in_order : (facts : StructFacts) (s : StructShape) → struct_shape known facts ≡ Some s → struct_in_order s ≡ true
  struct_shape_in_order facts s h =
      let m = mapped_some (λ (shapes : List Shape). struct_with facts shapes) (all_some (map (field_shape known) facts.fields)) s h in
      let P : StructShape → Type 0 = λ x. struct_in_order x ≡ true in
      subst P m.is (fields_in_order facts.fields m.value m.was)

-- what is known of types is in order
pub known_in_order : (facts : TypeFacts) (n : ℕ) → IsInOrder (known_after facts n)
unfolding known_after
known_in_order facts zero t s h = absurd (cc)
known_in_order facts (suc n) t s h =
    let j = joined_some (struct_shape (known_after facts n)) (facts.struct_of t) s h in
    struct_shape_in_order (known_after facts n) (known_in_order facts n) j.value s j.then

pub file_in_order : (m : Module) → IsInOrder (known_of m)
unfolding known_of
file_in_order m = known_in_order (facts_of m) ((facts_of m).count + (facts_of m).count)
