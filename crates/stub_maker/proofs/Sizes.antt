-- What the rule over the table answers can be printed: its shapes are in order and laid out, and their sizes have 64 bits.
use Rattle.std.proofs.Common.{◌≡◌, ◌≢◌, ◌⊎◌, inl, inr, ℕ, ◌+◌, ◌<◌, ◌≤◌, ◌^◌, ◌==◌, Bool, true, false, not, cond, ◌&&◌, List, [], ◌∷◌, length, Option, Some, None, is_none, Result, Ok, Err, IfOk, All, nat_lt, nat_le, refl, sym, ap, subst, rules, arith, ◌∙◌}
use Rattle.std.specs.List.{position}
use Rattle.std.proofs.lemmas.Bool.Decides.{nat_tests}
use Rattle.std.proofs.lemmas.List.Elements.{All-cons, All-nil}
use Rattle.native_layout.specs.declared.shapes.Enc.{Enc}
use Rattle.native_layout.specs.declared.shapes.Shape as shape
use Rattle.native_layout.specs.declared.shapes.Shape.{Shape, the_lemmas}
use Rattle.native_layout.specs.declared.shapes.StructShape.{StructShape}
use Rattle.native_layout.specs.Struct.{Measure, Struct, broken, broken_where, first_some, is_packing, largest, overlap_of, struct_measure, struct_size, written}
use Rattle.native_layout.specs.Shapes.{flat, measure, measured, nesting, parts_of, scalar}
use Rattle.native_layout.proofs.Folds.{measure_struct}
use Rattle.marshal_spec.specs.declared.spec.Spec.TheVariants.{LpArray}
use Rattle.stub_maker.specs.declared.kinds.Width.{Width}
use Rattle.stub_maker.specs.declared.kinds.Width.TheVariants.{One as Narrow, Two, Four, Eight}
use Rattle.stub_maker.specs.declared.kinds.Kind.{Kind}
use Rattle.stub_maker.specs.declared.kinds.Kind.TheVariants as kind
use Rattle.stub_maker.specs.declared.kinds.Form.{Form}
use Rattle.stub_maker.specs.declared.kinds.Form.TheVariants as form
use Rattle.stub_maker.specs.declared.kinds.Passed.{Passed}
use Rattle.stub_maker.specs.declared.kinds.TypeKind.{TypeKind}
use Rattle.stub_maker.specs.declared.kinds.TypeKind.TheVariants.{One, Array}
use Rattle.stub_maker.specs.declared.kinds.Descriptor.{Descriptor}
use Rattle.stub_maker.specs.declared.kinds.Descriptor.TheVariants.{Nothing, Is}
use Rattle.stub_maker.specs.declared.table.Row.{Row}
use Rattle.stub_maker.specs.declared.table.Row.TheVariants as row
use Rattle.stub_maker.specs.declared.table.Column.{Column}
use Rattle.stub_maker.specs.declared.table.Column.TheVariants as column
use Rattle.stub_maker.specs.declared.table.Cell.{Cell}
use Rattle.stub_maker.specs.declared.table.Cell.TheVariants as cell
use Rattle.stub_maker.specs.declared.stub.Mark.{Mark}
use Rattle.stub_maker.specs.declared.stub.Step.{Step}
use Rattle.stub_maker.specs.declared.stub.Res.{Res}
use Rattle.stub_maker.specs.declared.stub.Res.TheVariants as res
use Rattle.stub_maker.specs.declared.stub.Stub.{Stub}
use Rattle.stub_maker.specs.declared.signature.Imported.{Imported}
use Rattle.stub_maker.specs.declared.signature.Signature.{Signature}
use Rattle.stub_maker.specs.declared.refused.Param.TheVariants.{Arg, Result as TheResult}
use Rattle.stub_maker.specs.declared.refused.StubBad.{StubBad}
use Rattle.stub_maker.specs.declared.refused.StubBad.TheVariants.{Outside, Memory}
use Rattle.stub_maker.specs.Crossing.{IsReturned}
use Rattle.stub_maker.specs.declared.refused.Why.{Why}
use Rattle.stub_maker.specs.declared.refused.Why.TheVariants as why
use Rattle.stub_maker.specs.Answers.{and_then, map_ok}
use Rattle.stub_maker.specs.Table.{cell_at, rows}
use Rattle.stub_maker.specs.Forms.{bool_width_by, bytes, char_width_by, encoding_by, form_by, is_plain, sign_by}
use Rattle.stub_maker.specs.Shapes.{Entry, Known, behind_pointer, described, element_by, entry_by, entry_if, first_entry, flat_one, one_by, other_one, shape_by, shape_of_form}
use Rattle.stub_maker.specs.Extents.{deepest, is_laid_out, most_parts, size}
use Rattle.stub_maker.specs.Rules.{Marked, each_from, entry_in, found_entry, is_plain_signature, laid, mark_in, marked, marked_in, refused_at, returned, returned_by, step_by, step_of, stub_by, stub_by_signature, stub_of, stub_of_signature, with_mark}
use Rattle.stub_maker.specs.Sized.{IsInOrder, IsSized, IsSizedResult, IsSizedStep, IsSizedStub}
use Rattle.stub_maker.specs.InOrder.{entered, entry_in_order, first_in_row, joined_some, mapped_some, when_some}
use Rattle.stub_maker.proofs.Orderly.{and_then_ok, if_ok, map_ok_ok, refused_at_ok}

-- the rule on the size is the last one
rest_none : (o : Option ℕ) (os : List (Option ℕ)) → first_some (o ∷ os) ≡ None → first_some os ≡ None
rest_none None os h = h
rest_none (Some k) os h = absurd (cc)

last_none : (o : Option ℕ) → first_some (o ∷ []) ≡ None → o ≡ None
last_none None h = refl
last_none (Some k) h = absurd (cc)

sixth_none : (a b c d e f : Option ℕ) → first_some (a ∷ b ∷ c ∷ d ∷ e ∷ f ∷ []) ≡ None → f ≡ None
sixth_none a b c d e f h =
    last_none f (rest_none e (f ∷ []) (rest_none d (e ∷ f ∷ []) (rest_none c (d ∷ e ∷ f ∷ []) (rest_none b (c ∷ d ∷ e ∷ f ∷ []) (rest_none a (b ∷ c ∷ d ∷ e ∷ f ∷ []) h)))))

holds_not : (b : Bool) → broken_where b ≡ None → b ≡ false
holds_not false h = refl
holds_not true h = absurd (cc)

standing_within : (s : Struct) → broken s ≡ None → struct_size s ≤ largest
standing_within s h =
    let test : nat_lt largest (struct_size s) ≡ false =
    holds_not (nat_lt largest (struct_size s))
    (sixth_none (position (λ m. not m.stands) s.fields) (broken_where (length s.fields == 0)) (broken_where (not (is_packing s.pack)))
    (cond s.explicit (position is_none (written s.offsets (length s.fields))) None) (overlap_of s) (broken_where (nat_lt largest (struct_size s))) h) in
    grind (arith, nat_tests)

is_none_is : (o : Option ℕ) → is_none o ≡ true → o ≡ None
is_none_is None h = refl
is_none_is (Some k) h = absurd (cc)

-- ---- the sizes of forms

width_narrow : (w : Width) → bytes w < 2 ^ 64
width_narrow Narrow = omega arith
width_narrow Two = omega arith
width_narrow Four = omega arith
width_narrow Eight = omega arith

scalar_narrow : (s : Shape) (w : ℕ) (b : Bool) → measure s ≡ scalar w b → w < 2 ^ 64 → size s < 2 ^ 64
scalar_narrow s w b is narrow = let width : size s ≡ w = ap (λ (m : Measure). m.extent.size) is in omega arith

int_narrow : (w : ℕ) (signed : Bool) → w < 2 ^ 64 → size (shape.Int w signed) < 2 ^ 64
int_narrow w signed narrow = scalar_narrow (shape.Int w signed) w true (search (rules, the_lemmas)) narrow

bool_narrow : (w : ℕ) → w < 2 ^ 64 → size (shape.Bool w) < 2 ^ 64
bool_narrow w narrow = scalar_narrow (shape.Bool w) w false (search (rules, the_lemmas)) narrow

char_narrow : (w : ℕ) → w < 2 ^ 64 → size (shape.Char w) < 2 ^ 64
char_narrow w narrow = scalar_narrow (shape.Char w) w false (search (rules, the_lemmas)) narrow

native_narrow : (signed : Bool) → size (shape.Native signed) < 2 ^ 64
native_narrow signed = scalar_narrow (shape.Native signed) 8 true (search (rules, the_lemmas)) (omega arith)

text_narrow : (e : Enc) → size (shape.Text e) < 2 ^ 64
text_narrow e = scalar_narrow (shape.Text e) 8 false (search (rules, the_lemmas)) (omega arith)

thunk_narrow : (ty : ℕ) → size (shape.Thunk ty) < 2 ^ 64
thunk_narrow ty = scalar_narrow (shape.Thunk ty) 8 false (search (rules, the_lemmas)) (omega arith)

struct_narrow : (s : StructShape) → (measure (shape.Struct s)).stands ≡ true → size (shape.Struct s) < 2 ^ 64
struct_narrow s stands =
    let is : measure (shape.Struct s) ≡ struct_measure (measured s) = measure_struct s in
    let unbroken : broken (measured s) ≡ None = is_none_is (broken (measured s)) (sym (ap (λ (m : Measure). m.stands) is) ∙ stands) in
    let within : struct_size (measured s) ≤ largest = standing_within (measured s) unbroken in
    let same : size (shape.Struct s) ≡ struct_size (measured s) = ap (λ (m : Measure). m.extent.size) is in
    omega arith

-- a form that isn't a text in place
abbrev pub not_inline : Form → Bool
not_inline (form.InlineText e count) = false
not_inline _ = true

same_form : (f g : Form) → f ≡ g → not_inline f ≡ true → not_inline g ≡ true
same_form f g e h = let P : Form → Type 0 = λ x. not_inline x ≡ true in subst P e h

pub form_in_place : (u : Bool) (r : Row) (k : Kind) (d : Descriptor) (f : Form) → form_by u r k d ≡ Some f → (r ≡ row.InlineTexts) ⊎ (not_inline f ≡ true)
form_in_place u row.Integers (kind.Integer width signed) d f h =
    let m = mapped_some (form.Int width) (sign_by width signed d) f h in inr (same_form (form.Int width m.value) f m.is refl)
form_in_place u row.Integers (kind.NativeInteger signed) d f h =
    let m = mapped_some form.Native (sign_by Eight signed d) f h in inr (same_form (form.Native m.value) f m.is refl)
form_in_place u row.Booleans kind.Boolean d f h =
    let m = mapped_some form.Bool (bool_width_by d) f h in inr (same_form (form.Bool m.value) f m.is refl)
form_in_place u row.Characters kind.Character d f h =
    let m = mapped_some form.Char (char_width_by u d) f h in inr (same_form (form.Char m.value) f m.is refl)
form_in_place u row.Pointers kind.Pointer Nothing f h = let same : form.Native true ≡ f = cc in inr (same_form (form.Native true) f same refl)
form_in_place u row.Texts kind.Text d f h =
    let m = mapped_some form.Text (encoding_by u d) f h in inr (same_form (form.Text m.value) f m.is refl)
form_in_place u row.InlineTexts k d f h = inl refl
form_in_place u row.Structs (kind.Struct ty) d f h =
    let there = when_some (is_plain 0x1B d) (Some (form.Struct ty)) f h in
    let same : form.Struct ty ≡ f = cc in inr (same_form (form.Struct ty) f same refl)
form_in_place u row.Delegates (kind.Delegate ty) d f h =
    let there = when_some (is_plain 0x26 d) (Some (form.Thunk ty)) f h in
    let same : form.Thunk ty ≡ f = cc in inr (same_form (form.Thunk ty) f same refl)
form_in_place u row.Handles kind.Handle Nothing f h = let same : form.Native true ≡ f = cc in inr (same_form (form.Native true) f same refl)
form_in_place u _ _ _ f h = absurd (cc)

-- what stands in place crosses in a field alone
pub outside : (o : Option Shape) (e : Entry) → entry_if cell.Outside o ≡ Some e → ⊥
outside None e h = cc
outside (Some s) e h = cc

record InField (c : Column) : Type 0 where
  pub texts : cell_at row.InlineTexts c ≡ cell.Outside
  pub arrays : cell_at row.InlineArrays c ≡ cell.Outside

field_alone : (c : Column) → c ≢ column.Field → InField c
field_alone column.ByValue n = record { texts = refl; arrays = refl }
field_alone column.ByReference n = record { texts = refl; arrays = refl }
field_alone column.Returned n = record { texts = refl; arrays = refl }
field_alone column.Field n = absurd (n refl)
field_alone column.Element n = record { texts = refl; arrays = refl }
field_alone column.InlineElement n = record { texts = refl; arrays = refl }
field_alone column.CallbackValue n = record { texts = refl; arrays = refl }
field_alone column.CallbackReference n = record { texts = refl; arrays = refl }
field_alone column.CallbackReturned n = record { texts = refl; arrays = refl }

narrow_as : (s t : Shape) → s ≡ t → size s < 2 ^ 64 → size t < 2 ^ 64
narrow_as s t e h = let P : Shape → Type 0 = λ x. size x < 2 ^ 64 in subst P e h

stands_as : (s t : Shape) → s ≡ t → (measure t).stands ≡ true → (measure s).stands ≡ true
stands_as s t e h = ap (λ (x : Shape). (measure x).stands) e ∙ h

left_true : (a b : Bool) → (a && b) ≡ true → a ≡ true
left_true true b h = refl
left_true false b h = absurd (cc)

pub laid_stands : (s : Shape) → is_laid_out s ≡ true → (measure s).stands ≡ true
laid_stands s h =
    left_true (measure s).stands (nat_le (nesting s) deepest)
    (left_true ((measure s).stands && nat_le (nesting s) deepest) (nat_le (parts_of s) most_parts) h)

both_true : (a b : Bool) → (a && b) ≡ true → b ≡ true
both_true true b h = h
both_true false b h = absurd (cc)

within : (n m : ℕ) → nat_le n m ≡ true → n ≤ m
within n m h = grind (arith, nat_tests)

pub laid_shallow : (s : Shape) → is_laid_out s ≡ true → nesting s ≤ deepest
laid_shallow s h =
    within (nesting s) deepest
    (both_true (measure s).stands (nat_le (nesting s) deepest)
    (left_true ((measure s).stands && nat_le (nesting s) deepest) (nat_le (parts_of s) most_parts) h))

pub laid_few : (s : Shape) → is_laid_out s ≡ true → parts_of s ≤ most_parts
laid_few s h = within (parts_of s) most_parts (both_true ((measure s).stands && nat_le (nesting s) deepest) (nat_le (parts_of s) most_parts) h)

pub found_some : (known : Known) (u : Bool) (c : Column) (p : Passed) (e : Entry) (o : Option Entry) → found_entry known u c p o ≡ Ok e → o ≡ Some e
found_some known u c p e (Some x) h = let same : x ≡ e = cc in ap Some same
found_some known u c p e None h = absurd (cc)

laid_by : {A : Type 0} (b : Bool) (v w : A) → cond b (Ok v) (Err why.Layout) ≡ Ok w → (b ≡ true) × (v ≡ w)
laid_by true v w h = (refl, cc)
laid_by false v w h = absurd (cc)

pub laid_ok : {A : Type 0} (s : Shape) (v w : A) → laid s v ≡ Ok w → (is_laid_out s ≡ true) × (v ≡ w)
laid_ok s v w h = laid_by (is_laid_out s) v w h

pub with_mark_ok : (e : Entry) (o : Option Mark) (m : Marked) → with_mark e o ≡ Ok m → e ≡ m.entry
with_mark_ok e None m h = absurd (cc)
with_mark_ok e (Some x) m h = let same : record { entry = e; mark = x } ≡ m = cc in ap (λ (y : Marked). y.entry) same

by_value : (b : Bool) (r : Result Res Why) (a : Res) → cond b (Err why.Type0) r ≡ Ok a → r ≡ Ok a
by_value true r a h = absurd (cc)
by_value false r a h = h

parameter_column : (b : Bool) → cond b column.ByReference column.ByValue ≢ column.Field
parameter_column true h = cc
parameter_column false h = cc

cell_sized : (k : ℕ) (c : Cell) (s : Shape) (m : Mark) → IsSized s → IsSizedStep (step_by k (record { entry = record { cell = c; shape = s }; mark = m }))
cell_sized k cell.Outside s m h = h
cell_sized k cell.Word s m h = h
cell_sized k cell.Text s m h = tt
cell_sized k cell.Value s m h = h
cell_sized k cell.PlainValue s m h = h
cell_sized k cell.Place s m h = h
cell_sized k cell.PlainPlace s m h = h
cell_sized k cell.Lend s m h = h
cell_sized k cell.Copy s m h = h
cell_sized k cell.CountedCopy s m h = h
cell_sized k cell.Thunk s m h = tt
cell_sized k cell.Hold s m h = tt
cell_sized k cell.Part s m h = h
cell_sized k cell.FlatPart s m h = h

result_cell_sized : (c : Cell) (s : Shape) → IsSized s → IsSizedResult (returned_by (record { cell = c; shape = s }))
result_cell_sized cell.Text s h = tt
result_cell_sized cell.Value s h = h
result_cell_sized cell.PlainValue s h = h
result_cell_sized _ s h = h

module _ (known : Known) (ordered : IsInOrder known) where
  pub form_narrow : (f : Form) (s : Shape) → not_inline f ≡ true → shape_of_form known f ≡ Some s → (measure s).stands ≡ true → size s < 2 ^ 64
  form_narrow (form.Int w signed) s o h l = let same : shape.Int (bytes w) signed ≡ s = cc in narrow_as (shape.Int (bytes w) signed) s same (int_narrow (bytes w) signed (width_narrow w))
  form_narrow (form.Native signed) s o h l = let same : shape.Native signed ≡ s = cc in narrow_as (shape.Native signed) s same (native_narrow signed)
  form_narrow (form.Bool w) s o h l = let same : shape.Bool (bytes w) ≡ s = cc in narrow_as (shape.Bool (bytes w)) s same (bool_narrow (bytes w) (width_narrow w))
  form_narrow (form.Char w) s o h l = let same : shape.Char (bytes w) ≡ s = cc in narrow_as (shape.Char (bytes w)) s same (char_narrow (bytes w) (width_narrow w))
  form_narrow (form.Text e) s o h l = let same : shape.Text e ≡ s = cc in narrow_as (shape.Text e) s same (text_narrow e)
  form_narrow (form.InlineText e count) s o h l = absurd (cc)
  form_narrow (form.Struct ty) s o h l =
      let m = mapped_some shape.Struct (known.struct_of ty) s h in
      narrow_as (shape.Struct m.value) s m.is (struct_narrow m.value (stands_as (shape.Struct m.value) s m.is l))
  form_narrow (form.Thunk ty) s o h l =
      let there = when_some (known.is_callable ty) (Some (shape.Thunk ty)) s h in
      let same : shape.Thunk ty ≡ s = cc in narrow_as (shape.Thunk ty) s same (thunk_narrow ty)

  one_narrow : (u : Bool) (r : Row) (c : Column) → c ≢ column.Field → (k : Kind) (d : Descriptor) (e : Entry) → entry_if (cell_at r c) (one_by known u r k d) ≡ Some e
      → (measure e.shape).stands ≡ true → size e.shape < 2 ^ 64
  one_narrow u r c n k d e h l =
      let there : one_by known u r k d ≡ Some e.shape = entered (cell_at r c) (one_by known u r k d) e h in
      let j = joined_some (shape_of_form known) (form_by u r k d) e.shape there in
      elim (form_in_place u r k d j.value j.was) [
        | inl texts ↦
            let none : cell_at r c ≡ cell.Outside = ap (λ (x : Row). cell_at x c) texts ∙ (field_alone c n).texts in
            let P : Cell → Type 0 = λ x. entry_if x (one_by known u r k d) ≡ Some e in
            absurd (outside (one_by known u r k d) e (subst P none h))
        | inr plain ↦ form_narrow j.value e.shape plain j.then l
      ]

  element_narrow : (u : Bool) (k : Kind) (code : Option ℕ) (s : Shape) → element_by known u column.Element k code ≡ Some s → (measure s).stands ≡ true → size s < 2 ^ 64
  element_narrow u k code s h l =
      let m = mapped_some (λ (e : Entry). e.shape) (first_entry (λ r. one_by known u r k (described code)) column.Element rows) s h in
      let i = first_in_row (λ r. one_by known u r k (described code)) column.Element rows m.value m.was in
      narrow_as m.value.shape s m.is
      (one_narrow u i.row column.Element (λ same. cc) k (described code) m.value i.is (stands_as m.value.shape s m.is l))

  behind_narrow : (u : Bool) (k : Kind) (d : Descriptor) (s : Shape) → behind_pointer known u k d ≡ Some s → (measure s).stands ≡ true → size s < 2 ^ 64
  behind_narrow u k Nothing s h l = element_narrow u k None s h l
  behind_narrow u k (Is (LpArray code parameter count flag)) s h l = element_narrow u k code s h l
  behind_narrow u k _ s h l = absurd (cc)

  row_narrow : (u : Bool) (r : Row) (c : Column) → c ≢ column.Field → (type : TypeKind) (d : Descriptor) (e : Entry) → entry_if (cell_at r c) (shape_by known u r type d) ≡ Some e
      → shape_by known u r type d ≡ Some e.shape → (measure e.shape).stands ≡ true → size e.shape < 2 ^ 64
  row_narrow u r c n (One k) d e h there l = one_narrow u r c n k d e h l
  row_narrow u row.FlatArrays c n (Array base k) d e h there l =
      let j = joined_some flat_one (behind_pointer known u k d) e.shape there in
      let some = when_some (flat j.value) (Some j.value) e.shape j.then in
      let same : j.value ≡ e.shape = cc in
      narrow_as j.value e.shape same (behind_narrow u k d j.value j.was (stands_as j.value e.shape same l))
  row_narrow u row.OtherArrays c n (Array base k) d e h there l =
      let j = joined_some other_one (behind_pointer known u k d) e.shape there in
      let some = when_some (not (flat j.value)) (Some j.value) e.shape j.then in
      let same : j.value ≡ e.shape = cc in
      narrow_as j.value e.shape same (behind_narrow u k d j.value j.was (stands_as j.value e.shape same l))
  row_narrow u row.InlineArrays c n (Array base k) d e h there l =
      let P : Cell → Type 0 = λ x. entry_if x (shape_by known u row.InlineArrays (Array base k) d) ≡ Some e in
      absurd (outside (shape_by known u row.InlineArrays (Array base k) d) e (subst P (field_alone c n).arrays h))
  row_narrow u _ c n (Array base k) d e h there l = absurd (cc)

  -- what has a row outside fields has a size
  pub entry_sized : (u : Bool) (c : Column) → c ≢ column.Field → (type : TypeKind) (d : Descriptor) (e : Entry) → entry_by known u c type d ≡ Some e
      → is_laid_out e.shape ≡ true → IsSized e.shape
  entry_sized u c n type d e h l =
      let i = first_in_row (λ r. shape_by known u r type d) c rows e h in
      let stands = laid_stands e.shape l in record {
        order = entry_in_order known ordered u c type d e h;
        stands = stands;
        shallow = laid_shallow e.shape l;
        few = laid_few e.shape l;
        narrow = row_narrow u i.row c n type d e i.is (entered (cell_at i.row c) (shape_by known u i.row type d) e i.is) stands;
      }

  pub found_sized : (u : Bool) (c : Column) → c ≢ column.Field → (p : Passed) (e : Entry) → entry_in known u c p ≡ Ok e → is_laid_out e.shape ≡ true → IsSized e.shape
  found_sized u c n p e h l = entry_sized u c n p.kind p.descriptor e (found_some known u c p e (entry_by known u c p.kind p.descriptor) h) l

  marked_sized : (u : Bool) (c : Column) → c ≢ column.Field → (p : Passed) (m : Marked) → marked_in known u c p ≡ Ok m → IsSized m.entry.shape
  marked_sized u c n p m h =
      let f = and_then_ok (λ (x : Marked). laid x.entry.shape x) (and_then (λ (e : Entry). with_mark e (mark_in e.cell p.flags)) (entry_in known u c p)) m h in
      let l = laid_ok f.value.entry.shape f.value m f.then in
      let g = and_then_ok (λ (e : Entry). with_mark e (mark_in e.cell p.flags)) (entry_in known u c p) f.value f.was in
      let same : g.value.shape ≡ f.value.entry.shape = ap (λ (e : Entry). e.shape) (with_mark_ok g.value (mark_in g.value.cell p.flags) f.value g.then) in
      let whole : g.value.shape ≡ m.entry.shape = same ∙ ap (λ (x : Marked). x.entry.shape) l.1 in
      subst IsSized whole (found_sized u c n p g.value g.was (ap is_laid_out same ∙ l.0))

  step_sized : (u : Bool) (k : ℕ) (p : Passed) (s : Step) → step_of known u k p ≡ Ok s → IsSizedStep s
  step_sized u k p s h =
      let m = map_ok_ok (step_by k) (marked known u column.ByValue column.ByReference p) s h in
      let sized = marked_sized u (cond p.reference column.ByReference column.ByValue) (parameter_column p.reference) p m.value m.was in
      subst IsSizedStep m.is (cell_sized k m.value.entry.cell m.value.entry.shape m.value.mark sized)

  pub steps_sized : (u : Bool) (k : ℕ) (ps : List Passed) (steps : List Step) → each_from (step_of known u) k ps ≡ Ok steps → All IsSizedStep steps
  steps_sized u k [] steps h = let same : [] ≡ steps = cc in subst (All IsSizedStep) same (All-nil IsSizedStep)
  steps_sized u k (p ∷ ps) steps h =
      let f = and_then_ok (λ (a : Step). map_ok (λ (rest : List Step). a ∷ rest) (each_from (step_of known u) (k + 1) ps)) (refused_at (Arg k) (step_of known u k p)) steps h in
      let g = map_ok_ok (λ (rest : List Step). f.value ∷ rest) (each_from (step_of known u) (k + 1) ps) steps f.then in
      let first = step_sized u k p f.value (refused_at_ok (Arg k) (step_of known u k p) f.value f.was) in
      subst (All IsSizedStep) g.is (All-cons IsSizedStep f.value g.value first (steps_sized u (k + 1) ps g.value g.was))

  pub result_sized : (u : Bool) (c : Column) → c ≢ column.Field → (p : Option Passed) (r : Res) → returned known u c p ≡ Ok r → IsSizedResult r
  result_sized u c n None r h = let same : res.Void ≡ r = cc in subst IsSizedResult same tt
  result_sized u c n (Some p) r h =
      let there = by_value p.reference (map_ok returned_by (and_then (λ (e : Entry). laid e.shape e) (entry_in known u c p))) r h in
      let m = map_ok_ok returned_by (and_then (λ (e : Entry). laid e.shape e) (entry_in known u c p)) r there in
      let f = and_then_ok (λ (e : Entry). laid e.shape e) (entry_in known u c p) m.value m.was in
      let l = laid_ok f.value.shape f.value m.value f.then in
      let sized = found_sized u c n p f.value f.was l.0 in
      let one : IsSizedResult (returned_by f.value) = result_cell_sized f.value.cell f.value.shape sized in
      subst IsSizedResult (ap returned_by l.1 ∙ m.is) one

  signature_sized : (i : Imported) (s : Signature) (stub : Stub) → stub_of_signature known i s ≡ Ok stub → IsSizedStub stub
  signature_sized i s stub h =
      let f = and_then_ok (λ (steps : List Step). map_ok (stub_by i.saves_error steps) (refused_at TheResult (returned known i.unicode column.Returned s.result))) (each_from (step_of known i.unicode) 0 s.params) stub h in
      let g = map_ok_ok (stub_by i.saves_error f.value) (refused_at TheResult (returned known i.unicode column.Returned s.result)) stub f.then in
      let made : IsSizedStub (stub_by i.saves_error f.value g.value) = record {
        steps = steps_sized i.unicode 0 s.params f.value f.was;
        result_way = result_sized i.unicode column.Returned (λ same. cc) s.result g.value (refused_at_ok TheResult (returned known i.unicode column.Returned s.result) g.value g.was);
      } in
      subst IsSizedStub g.is made

  pub answered_signature_sized : (i : Imported) (s : Signature) (r : Result Stub StubBad) → IsReturned r (stub_of_signature known i s) → IfOk r IsSizedStub
  answered_signature_sized i s (Ok stub) h = signature_sized i s stub h
  answered_signature_sized i s (Err (Outside p w)) h = tt
  answered_signature_sized i s (Err Memory) h = tt

  optional_sized : (i : Imported) (o : Option Signature) (stub : Stub) → stub_by_signature known i o ≡ Ok stub → IsSizedStub stub
  optional_sized i None stub h = absurd (cc)
  optional_sized i (Some s) stub h = signature_sized i s stub (if_ok (i.is_static && is_plain_signature s) (stub_of_signature known i s) why.Type0 stub h)

  -- a stub can be printed
  pub stub_sized : (i : Imported) (stub : Stub) → stub_of known i ≡ Ok stub → IsSizedStub stub
  stub_sized i stub h = optional_sized i i.signature stub (if_ok i.preserves_signature (stub_by_signature known i i.signature) why.PreserveSig stub h)

  -- so can what a call answers by the rule
  pub answered_sized : (i : Imported) (r : Result Stub StubBad) → IsReturned r (stub_of known i) → IfOk r IsSizedStub
  answered_sized i (Ok stub) h = stub_sized i stub h
  answered_sized i (Err (Outside p w)) h = tt
  answered_sized i (Err Memory) h = tt
