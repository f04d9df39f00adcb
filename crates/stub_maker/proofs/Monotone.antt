-- What more is known keeps what is answered already: where one knowledge is within another, each entry, shape and callback that the
-- first one has is that of the second one.
use Rattle.std.proofs.Common.{◌≡◌, ◌≢◌, ℕ, ◌+◌, Bool, true, false, List, [], ◌∷◌, map, Option, Some, None, Result, Ok, Err, is_ok, nat_le, cond, refl, sym, ap, ◌∙◌}
use Rattle.std.specs.Option.{option_and_then, option_map}
use Rattle.native_layout.specs.declared.shapes.Shape as shape
use Rattle.native_layout.specs.declared.shapes.Shape.{Shape}
use Rattle.native_layout.specs.declared.shapes.StructShape.{StructShape}
use Rattle.marshal_spec.specs.declared.spec.Spec.TheVariants.{Plain, ByValText, ByValArray, LpArray}
use Rattle.stub_maker.specs.declared.kinds.Kind.{Kind}
use Rattle.stub_maker.specs.declared.kinds.TypeKind.{TypeKind}
use Rattle.stub_maker.specs.declared.kinds.TypeKind.TheVariants.{One, Array}
use Rattle.stub_maker.specs.declared.kinds.Form.{Form}
use Rattle.stub_maker.specs.declared.kinds.Form.TheVariants as form
use Rattle.stub_maker.specs.declared.kinds.Descriptor.{Descriptor}
use Rattle.stub_maker.specs.declared.kinds.Descriptor.TheVariants.{Nothing, Unread, Is}
use Rattle.stub_maker.specs.declared.kinds.Passed.{Passed}
use Rattle.stub_maker.specs.declared.table.Row.TheVariants as row
use Rattle.stub_maker.specs.declared.table.Column.{Column}
use Rattle.stub_maker.specs.declared.table.Column.TheVariants as col
use Rattle.stub_maker.specs.declared.table.Cell.{Cell}
use Rattle.stub_maker.specs.declared.table.Cell.TheVariants.{Part}
use Rattle.stub_maker.specs.declared.facts.FieldFacts.{FieldFacts}
use Rattle.stub_maker.specs.declared.facts.StructFacts.{StructFacts}
use Rattle.stub_maker.specs.declared.signature.Signature.{Signature}
use Rattle.stub_maker.specs.declared.backs.ReceivedMark.{ReceivedMark}
use Rattle.stub_maker.specs.declared.stub.Back.{Back}
use Rattle.stub_maker.specs.declared.stub.Res.{Res}
use Rattle.stub_maker.specs.declared.refused.Param.{Param}
use Rattle.stub_maker.specs.declared.refused.Param.TheVariants.{Arg, Result as TheResult}
use Rattle.stub_maker.specs.declared.refused.Why.{Why}
use Rattle.stub_maker.specs.declared.refused.Why.TheVariants as why
use Rattle.stub_maker.specs.Answers.{and_then, map_ok}
use Rattle.stub_maker.specs.Table.{cell_at, rows}
use Rattle.stub_maker.specs.Forms.{when}
use Rattle.stub_maker.specs.Shapes.{Entry, Known, behind_pointer, described, element_by, entry_by, entry_if, first_entry, one_by, shape_by, shape_of_form}
use Rattle.stub_maker.specs.Entries.{pointed, row_form}
use Rattle.stub_maker.specs.Rules.{Marked, Refused, each_from, entry_in, found_entry, is_plain_signature, laid, mark_in, refused_at, returned, returned_by, whole, with_mark}
use Rattle.stub_maker.specs.Callbacks.{back_by, back_of, back_of_signature, marked_of, received_by, received_of, with_length}
use Rattle.stub_maker.specs.Facts.{TypeFacts, all_some, field_shape, struct_shape}
use Rattle.stub_maker.proofs.InField.{field_entry}
use Rattle.stub_maker.proofs.OneRow.{the_array, the_entry}

-- ---- answers that are kept

-- what one has, the other has too
abbrev pub Keeps : {A : Type 0} → Option A → Option A → Type 0
Keeps {A} o p = (a : A) → o ≡ Some a → p ≡ Some a

abbrev pub KeepsOk : {A E : Type 0} → Result A E → Result A E → Type 0
KeepsOk {A} r s = (a : A) → r ≡ Ok a → s ≡ Ok a

-- a value that is mapped or looked at
keeps_map : {A B : Type 0} (f : A → B) (o p : Option A) → Keeps o p → Keeps (option_map f o) (option_map f p)
keeps_map f None p k b e = absurd (let h : ⊥ = cc in h)
keeps_map f (Some a) p k b e = ap (option_map f) (k a refl) ∙ e

keeps_then : {A B : Type 0} (f g : A → Option B) → ((a : A) → Keeps (f a) (g a)) → (o : Option A) → Keeps (option_and_then f o) (option_and_then g o)
keeps_then f g k None b e = absurd (let h : ⊥ = cc in h)
keeps_then f g k (Some a) b e = k a b e

keeps_and_then : {A B E : Type 0} (f : A → Result B E) (r s : Result A E) → KeepsOk r s → KeepsOk (and_then f r) (and_then f s)
keeps_and_then f (Err x) s k b e = absurd (let h : ⊥ = cc in h)
keeps_and_then f (Ok a) s k b e = ap (and_then f) (k a refl) ∙ e

keeps_map_ok : {A B E : Type 0} (f : A → B) (r s : Result A E) → KeepsOk r s → KeepsOk (map_ok f r) (map_ok f s)
keeps_map_ok f (Err x) s k b e = absurd (let h : ⊥ = cc in h)
keeps_map_ok f (Ok a) s k b e = ap (map_ok f) (k a refl) ∙ e

keeps_refused : {A : Type 0} (p : Param) (r s : Result A Why) → KeepsOk r s → KeepsOk (refused_at p r) (refused_at p s)
keeps_refused p (Err w) s k a e = absurd (let h : ⊥ = cc in h)
keeps_refused p (Ok x) s k a e = ap (refused_at p) (k x refl) ∙ e

-- two answers in a row
keeps_both : {A B E : Type 0} (f g : A → Result B E) → ((a : A) → KeepsOk (f a) (g a)) → (r s : Result A E) → KeepsOk r s
    → KeepsOk (and_then f r) (and_then g s)
keeps_both f g k (Err x) s h b e = absurd (let z : ⊥ = cc in z)
keeps_both f g k (Ok a) s h b e = ap (and_then g) (h a refl) ∙ k a b e

keeps_each : {A : Type 0} (f g : ℕ → Passed → Result A Why) → ((k : ℕ) (p : Passed) → KeepsOk (f k p) (g k p)) → (k : ℕ) (ps : List Passed)
    → KeepsOk (each_from f k ps) (each_from g k ps)
keeps_each f g keep k [] = λ all e. e
keeps_each {A} f g keep k (p ∷ ps) =
    keeps_both (λ (a : A). map_ok (λ (rest : List A). a ∷ rest) (each_from f (k + 1) ps)) (λ (a : A). map_ok (λ (rest : List A). a ∷ rest) (each_from g (k + 1) ps))
    (λ a. keeps_map_ok (λ (rest : List A). a ∷ rest) (each_from f (k + 1) ps) (each_from g (k + 1) ps) (keeps_each f g keep (k + 1) ps))
    (refused_at (Arg k) (f k p)) (refused_at (Arg k) (g k p)) (keeps_refused (Arg k) (f k p) (g k p) (keep k p))

keeps_one : {A : Type 0} (f g : FieldFacts → Option A) (xs : List FieldFacts) (o p : Option A) → Keeps o p → Keeps (all_some (map f xs)) (all_some (map g xs))
    → Keeps (all_some (o ∷ map f xs)) (all_some (p ∷ map g xs))
keeps_one f g xs None p k rest a h = absurd (let z : ⊥ = cc in z)
keeps_one {A} f g xs (Some v) p k rest a h =
    ap (λ (q : Option A). all_some (q ∷ map g xs)) (k v refl)
    ∙ keeps_map (λ (values : List A). v ∷ values) (all_some (map f xs)) (all_some (map g xs)) rest a h

keeps_all : {A : Type 0} (f g : FieldFacts → Option A) → ((x : FieldFacts) → Keeps (f x) (g x)) → (xs : List FieldFacts)
    → Keeps (all_some (map f xs)) (all_some (map g xs))
keeps_all f g keep [] = λ all e. e
keeps_all {A} f g keep (x ∷ xs) = keeps_one f g xs (f x) (g x) (keep x) (keeps_all f g keep xs)

keeps_when : (b c : Bool) (s : Shape) → (b ≡ true → c ≡ true) → Keeps (when b (Some s)) (when c (Some s))
keeps_when false c s k t e = absurd (let h : ⊥ = cc in h)
keeps_when true c s k t e = ap (λ (x : Bool). when x (Some s)) (k refl) ∙ e

keeps_entry : (cell : Cell) (o p : Option Shape) → Keeps o p → Keeps (entry_if cell o) (entry_if cell p)
keeps_entry cell None p k a e = absurd (let h : ⊥ = cc in h)
keeps_entry cell (Some s) p k a e = ap (entry_if cell) (k s refl) ∙ e

keeps_pointed : (column : Column) (o p : Option Shape) → Keeps o p → Keeps (pointed column o) (pointed column p)
keeps_pointed column None p k a e = absurd (let h : ⊥ = cc in h)
keeps_pointed column (Some s) p k a e = ap (pointed column) (k s refl) ∙ e

-- along equations
keeps_along : {A : Type 0} (o o' p p' : Option A) → o ≡ o' → p ≡ p' → Keeps o' p' → Keeps o p
keeps_along o o' p p' oo pp k a e = pp ∙ k a (sym oo ∙ e)

-- ---- two knowledges, of which one is within the other

module _ (less more : Known)
    (structs : (t : ℕ) (s : StructShape) → less.struct_of t ≡ Some s → more.struct_of t ≡ Some s)
    (callable : (t : ℕ) → less.is_callable t ≡ true → more.is_callable t ≡ true) where
  form_kept : (f : Form) → Keeps (shape_of_form less f) (shape_of_form more f)
  form_kept (form.Int width signed) s e = e
  form_kept (form.Native signed) s e = e
  form_kept (form.Bool width) s e = e
  form_kept (form.Char width) s e = e
  form_kept (form.Text encoding) s e = e
  form_kept (form.InlineText encoding count) s e = e
  form_kept (form.Struct ty) s e = keeps_map shape.Struct (less.struct_of ty) (more.struct_of ty) (structs ty) s e
  form_kept (form.Thunk ty) s e = keeps_when (less.is_callable ty) (more.is_callable ty) (shape.Thunk ty) (callable ty) s e

  one_kept : (u : Bool) (column : Column) (k : Kind) (d : Descriptor)
      → Keeps (first_entry (λ r. one_by less u r k d) column rows) (first_entry (λ r. one_by more u r k d) column rows)
  one_kept u column k d =
      keeps_along _ _ _ _ (the_entry less u column k d) (the_entry more u column k d)
      (keeps_entry (cell_at (row_form u k d).row column) (option_and_then (shape_of_form less) (row_form u k d).form) (option_and_then (shape_of_form more) (row_form u k d).form)
      (keeps_then (shape_of_form less) (shape_of_form more) form_kept (row_form u k d).form))

  element_kept : (u : Bool) (column : Column) (k : Kind) (code : Option ℕ) → Keeps (element_by less u column k code) (element_by more u column k code)
  element_kept u column k code =
      keeps_map (λ (e : Entry). e.shape) (first_entry (λ r. one_by less u r k (described code)) column rows) (first_entry (λ r. one_by more u r k (described code)) column rows)
      (one_kept u column k (described code))

  behind_kept : (u : Bool) (k : Kind) (d : Descriptor) → Keeps (behind_pointer less u k d) (behind_pointer more u k d)
  behind_kept u k Nothing = element_kept u col.Element k None
  behind_kept u k Unread = λ s e. e
  behind_kept u k (Is (Plain code)) = λ s e. e
  behind_kept u k (Is (ByValText count)) = λ s e. e
  behind_kept u k (Is (ByValArray count code)) = λ s e. e
  behind_kept u k (Is (LpArray code parameter count flag)) = element_kept u col.Element k code

  array_kept : (u : Bool) (column : Column) → column ≢ col.Field → (base : ℕ) (k : Kind) (d : Descriptor)
      → Keeps (entry_by less u column (Array base k) d) (entry_by more u column (Array base k) d)
  array_kept u column n base k d =
      keeps_along _ _ _ _ (the_array less u column n base k d) (the_array more u column n base k d)
      (keeps_pointed column (behind_pointer less u k d) (behind_pointer more u k d) (behind_kept u k d))

  in_place_kept : (u : Bool) (base : ℕ) (k : Kind) (d : Descriptor)
      → Keeps (shape_by less u row.InlineArrays (Array base k) d) (shape_by more u row.InlineArrays (Array base k) d)
  in_place_kept u base k Nothing = λ s e. e
  in_place_kept u base k Unread = λ s e. e
  in_place_kept u base k (Is (Plain code)) = λ s e. e
  in_place_kept u base k (Is (ByValText count)) = λ s e. e
  in_place_kept u base k (Is (ByValArray count code)) = kept (nat_le 1 count)
    where
      kept : (b : Bool) → Keeps (when b (option_map (λ s. shape.InlineArray base s count) (element_by less u col.InlineElement k code)))
          (when b (option_map (λ s. shape.InlineArray base s count) (element_by more u col.InlineElement k code)))
      kept true = keeps_map (λ s. shape.InlineArray base s count) (element_by less u col.InlineElement k code) (element_by more u col.InlineElement k code) (element_kept u col.InlineElement k code)
      kept false = λ s e. e
  in_place_kept u base k (Is (LpArray code parameter count flag)) = λ s e. e

  field_kept : (u : Bool) (base : ℕ) (k : Kind) (d : Descriptor)
      → Keeps (entry_by less u col.Field (Array base k) d) (entry_by more u col.Field (Array base k) d)
  field_kept u base k d =
      keeps_along _ _ _ _ (field_entry less u base k d) (field_entry more u base k d)
      (keeps_entry Part (shape_by less u row.InlineArrays (Array base k) d) (shape_by more u row.InlineArrays (Array base k) d) (in_place_kept u base k d))

  pub entry_kept : (u : Bool) (column : Column) (type : TypeKind) (d : Descriptor) → Keeps (entry_by less u column type d) (entry_by more u column type d)
  entry_kept u column (One k) d = one_kept u column k d
  entry_kept u col.ByValue (Array base k) d = array_kept u col.ByValue (λ h. let z : ⊥ = cc in z) base k d
  entry_kept u col.ByReference (Array base k) d = array_kept u col.ByReference (λ h. let z : ⊥ = cc in z) base k d
  entry_kept u col.Returned (Array base k) d = array_kept u col.Returned (λ h. let z : ⊥ = cc in z) base k d
  entry_kept u col.Field (Array base k) d = field_kept u base k d
  entry_kept u col.Element (Array base k) d = array_kept u col.Element (λ h. let z : ⊥ = cc in z) base k d
  entry_kept u col.InlineElement (Array base k) d = array_kept u col.InlineElement (λ h. let z : ⊥ = cc in z) base k d
  entry_kept u col.CallbackValue (Array base k) d = array_kept u col.CallbackValue (λ h. let z : ⊥ = cc in z) base k d
  entry_kept u col.CallbackReference (Array base k) d = array_kept u col.CallbackReference (λ h. let z : ⊥ = cc in z) base k d
  entry_kept u col.CallbackReturned (Array base k) d = array_kept u col.CallbackReturned (λ h. let z : ⊥ = cc in z) base k d

  pub field_shape_kept : (f : FieldFacts) → Keeps (field_shape less f) (field_shape more f)
  field_shape_kept f =
      keeps_map (λ (e : Entry). e.shape) (entry_by less f.unicode col.Field f.kind f.descriptor) (entry_by more f.unicode col.Field f.kind f.descriptor)
      (entry_kept f.unicode col.Field f.kind f.descriptor)

  -- the shape of a value type
  pub struct_kept : (s : StructFacts) → Keeps (struct_shape less s) (struct_shape more s)
  struct_kept s =
      keeps_map _ (all_some (map (field_shape less) s.fields)) (all_some (map (field_shape more) s.fields))
      (keeps_all (field_shape less) (field_shape more) field_shape_kept s.fields)

  entry_in_kept : (u : Bool) (column : Column) (p : Passed) → KeepsOk (entry_in less u column p) (entry_in more u column p)
  entry_in_kept u column p = found (entry_by less u column p.kind p.descriptor) (entry_by more u column p.kind p.descriptor) (entry_kept u column p.kind p.descriptor)
    where
      found : (o q : Option Entry) → Keeps o q → KeepsOk (found_entry less u column p o) (found_entry more u column p q)
      found None q k e h = absurd (let z : ⊥ = cc in z)
      found (Some x) q k e h = ap (found_entry more u column p) (k x refl) ∙ h

  marked_kept : (params : List Passed) (p : Passed) → KeepsOk (marked_of less params p) (marked_of more params p)
  marked_kept params p =
      let column : Column = cond p.reference col.CallbackReference col.CallbackValue in
      let a : Result Entry Why = entry_in less false column p in
      let b : Result Entry Why = entry_in more false column p in
      keeps_and_then (λ (m : Marked). laid m.entry.shape m)
      (and_then (λ (e : Entry). with_mark e (mark_in e.cell p.flags)) (and_then (with_length params p) a))
      (and_then (λ (e : Entry). with_mark e (mark_in e.cell p.flags)) (and_then (with_length params p) b))
      (keeps_and_then (λ (e : Entry). with_mark e (mark_in e.cell p.flags)) (and_then (with_length params p) a) (and_then (with_length params p) b)
      (keeps_and_then (with_length params p) a b (entry_in_kept false column p)))

  received_kept : (params : List Passed) (k : ℕ) (p : Passed) → KeepsOk (received_of less params k p) (received_of more params k p)
  received_kept params k p =
      keeps_map_ok (λ (m : Marked). record { received = received_by p m.entry.cell m.entry.shape; mark = m.mark }) (marked_of less params p) (marked_of more params p) (marked_kept params p)

  returned_kept : (u : Bool) (column : Column) (p : Option Passed) → KeepsOk (returned less u column p) (returned more u column p)
  returned_kept u column None = λ r e. e
  returned_kept u column (Some p) = by_value p.reference
    where
      by_value : (reference : Bool)
          → KeepsOk (cond reference (Err why.Type0) (map_ok returned_by (and_then (λ (e : Entry). laid e.shape e) (entry_in less u column p))))
          (cond reference (Err why.Type0) (map_ok returned_by (and_then (λ (e : Entry). laid e.shape e) (entry_in more u column p))))
      by_value true = λ r e. e
      by_value false =
          keeps_map_ok returned_by (and_then (λ (e : Entry). laid e.shape e) (entry_in less u column p)) (and_then (λ (e : Entry). laid e.shape e) (entry_in more u column p))
          (keeps_and_then (λ (e : Entry). laid e.shape e) (entry_in less u column p) (entry_in more u column p) (entry_in_kept u column p))

  back_by_kept : (s : Signature) → KeepsOk (back_of_signature less s) (back_of_signature more s)
  back_by_kept s =
      let a : Result Res Refused = refused_at TheResult (returned less false col.CallbackReturned s.result) in
      let b : Result Res Refused = refused_at TheResult (returned more false col.CallbackReturned s.result) in
      let k : KeepsOk a b = keeps_refused TheResult (returned less false col.CallbackReturned s.result) (returned more false col.CallbackReturned s.result) (returned_kept false col.CallbackReturned s.result) in
      keeps_both (λ (ps : List ReceivedMark). map_ok (back_by ps) a) (λ (ps : List ReceivedMark). map_ok (back_by ps) b)
      (λ ps. keeps_map_ok (back_by ps) a b k)
      (each_from (received_of less s.params) 0 s.params) (each_from (received_of more s.params) 0 s.params)
      (keeps_each (received_of less s.params) (received_of more s.params) (received_kept s.params) 0 s.params)

  -- a callback
  pub back_kept : (sig : Option Signature) → KeepsOk (back_of less sig) (back_of more sig)
  back_kept None = λ r e. e
  back_kept (Some s) = plain (is_plain_signature s)
    where
      plain : (b : Bool) → KeepsOk (cond b (back_of_signature less s) (whole why.Type0)) (cond b (back_of_signature more s) (whole why.Type0))
      plain true = back_by_kept s
      plain false = λ r e. e

  -- whether a callback crosses
  pub callable_kept : (sig : Option Signature) → is_ok (back_of less sig) ≡ true → is_ok (back_of more sig) ≡ true
  callable_kept sig = ok (back_of less sig) (back_of more sig) (back_kept sig)
    where
      ok : (r s : Result Back Refused) → KeepsOk r s → is_ok r ≡ true → is_ok s ≡ true
      ok (Ok x) s k h = ap is_ok (k x refl)
      ok (Err x) s k h = absurd (let z : ⊥ = cc in z)

  -- needs followed once more
  pub follow_structs : (facts : TypeFacts) (t : ℕ) → Keeps (option_and_then (struct_shape less) (facts.struct_of t)) (option_and_then (struct_shape more) (facts.struct_of t))
  follow_structs facts t = keeps_then (struct_shape less) (struct_shape more) struct_kept (facts.struct_of t)

-- ---- two knowledges that are the same of each type

pub same_known : (a b : Known) → ((t : ℕ) → a.struct_of t ≡ b.struct_of t) → ((t : ℕ) → a.is_callable t ≡ b.is_callable t) → a ≡ b
same_known a b structs callable = λ i. record { struct_of = λ t. structs t i; is_callable = λ t. callable t i }
