-- What is answered of a type rests on what is known of those that it needs, and of no other.
use Rattle.std.proofs.Common.{◌≡◌, ◌≢◌, ℕ, zero, suc, ◌+◌, arith, Bool, true, false, ◌&&◌, cond, All, List, [], ◌∷◌, map, Option, Some, None, Result, Err, is_ok, is_some, nat_le, if◌then◌else◌, refl, sym, ap, ◌∙◌}
use Rattle.std.specs.List.{list_any}
use Rattle.std.specs.Option.{option_and_then, option_map}
use Rattle.native_layout.specs.declared.shapes.Shape as shape
use Rattle.native_layout.specs.declared.shapes.Shape.{Shape}
use Rattle.native_layout.specs.declared.shapes.StructShape.{StructShape}
use Rattle.marshal_spec.specs.declared.spec.Spec.TheVariants.{Plain, ByValText, ByValArray, LpArray}
use Rattle.stub_maker.specs.declared.kinds.Width.TheVariants.{Eight}
use Rattle.stub_maker.specs.declared.kinds.Kind.{Kind}
use Rattle.stub_maker.specs.declared.kinds.Kind.TheVariants as kind
use Rattle.stub_maker.specs.declared.kinds.TypeKind.{TypeKind}
use Rattle.stub_maker.specs.declared.kinds.TypeKind.TheVariants.{One, Array}
use Rattle.stub_maker.specs.declared.kinds.Form.TheVariants as form
use Rattle.stub_maker.specs.declared.kinds.Descriptor.{Descriptor}
use Rattle.stub_maker.specs.declared.kinds.Descriptor.TheVariants.{Nothing, Unread, Is}
use Rattle.stub_maker.specs.declared.kinds.Passed.{Passed}
use Rattle.stub_maker.specs.declared.table.Row.TheVariants as row
use Rattle.stub_maker.specs.declared.table.Column.{Column}
use Rattle.stub_maker.specs.declared.table.Column.TheVariants as col
use Rattle.stub_maker.specs.declared.table.Cell.TheVariants.{Part}
use Rattle.stub_maker.specs.declared.facts.FieldFacts.{FieldFacts}
use Rattle.stub_maker.specs.declared.facts.StructFacts.{StructFacts}
use Rattle.stub_maker.specs.declared.signature.Imported.{Imported}
use Rattle.stub_maker.specs.declared.signature.Signature.{Signature}
use Rattle.stub_maker.specs.declared.backs.ReceivedMark.{ReceivedMark}
use Rattle.stub_maker.specs.declared.stub.Back.{Back}
use Rattle.stub_maker.specs.declared.stub.Stub.{Stub}
use Rattle.stub_maker.specs.declared.stub.Step.{Step}
use Rattle.stub_maker.specs.declared.stub.Res.{Res}
use Rattle.stub_maker.specs.declared.refused.Param.TheVariants.{Arg, Result as TheResult, Whole}
use Rattle.stub_maker.specs.declared.refused.Why.{Why}
use Rattle.stub_maker.specs.declared.refused.Why.TheVariants as why
use Rattle.stub_maker.specs.Answers.{and_then, map_ok}
use Rattle.stub_maker.specs.Table.{cell_at, rows}
use Rattle.stub_maker.specs.Forms.{bool_width_by, char_width_by, encoding_by, encoding_of, is_plain, sign_by, when}
use Rattle.stub_maker.specs.Shapes.{Entry, Known, behind_pointer, crosses, described, element_by, entry_by, entry_if, first_entry, one_by, shape_by, shape_of_form, simplest_descriptors}
use Rattle.stub_maker.specs.Entries.{pointed, row_form}
use Rattle.stub_maker.specs.Rules.{Marked, Refused, each_from, entry_in, found_entry, is_plain_signature, laid, mark_in, marked_in, refused_at, returned, returned_by, step_by, step_of, stub_by, stub_by_signature, stub_of, stub_of_passed, whole, with_mark}
use Rattle.stub_maker.specs.Callbacks.{back_by, back_of, back_of_signature, received_by, received_of, with_length}
use Rattle.stub_maker.specs.Described.{bare, bare_shape}
use Rattle.stub_maker.specs.Facts.{TypeFacts, all_some, field_shape, known_after, struct_shape}
use Rattle.stub_maker.specs.Learned.{followed}
use Rattle.stub_maker.specs.Needs.{AgreeIn, AnswerAlike, AreClosed, IsIn, NeedsIn, SignatureIn, TypeSets, restricted}
use Rattle.stub_maker.proofs.InField.{field_entry}
use Rattle.stub_maker.proofs.OneRow.{the_array, the_entry}

-- ---- functions that agree

first_of : {A : Type 0} (P : A → Type 0) (x : A) (xs : List A) → All P (x ∷ xs) → P x
first_of P x xs all = all 0 x (omega arith)

rest_of : {A : Type 0} (P : A → Type 0) (x : A) (xs : List A) → All P (x ∷ xs) → All P xs
rest_of P x xs all k d within = all (suc k) d (omega arith)

then_map : {A B C : Type 0} (f g : B → Option C) (make : A → B) → ((x : A) → f (make x) ≡ g (make x)) → (o : Option A)
    → option_and_then f (option_map make o) ≡ option_and_then g (option_map make o)
then_map f g make same None = refl
then_map f g make same (Some x) = same x

then_when : {B C : Type 0} (f g : B → Option C) (holds : Bool) (x : B) → f x ≡ g x → option_and_then f (when holds (Some x)) ≡ option_and_then g (when holds (Some x))
then_when f g true x same = same
then_when f g false x same = refl

each_alike : {A : Type 0} (P : Passed → Type 0) (f g : ℕ → Passed → Result A Why) → ((k : ℕ) (p : Passed) → P p → f k p ≡ g k p)
    → (k : ℕ) (ps : List Passed) → All P ps → each_from f k ps ≡ each_from g k ps
each_alike P f g same k [] all = refl
each_alike {A} P f g same k (p ∷ ps) all =
    ap (λ (rest : Result (List A) Refused). and_then (λ (x : A). map_ok (λ (xs : List A). x ∷ xs) rest) (refused_at (Arg k) (f k p))) (each_alike P f g same (k + 1) ps (rest_of P p ps all))
    ∙ ap (λ (one : Result A Why). and_then (λ (x : A). map_ok (λ (xs : List A). x ∷ xs) (each_from g (k + 1) ps)) (refused_at (Arg k) one)) (same k p (first_of P p ps all))

-- ---- two states of knowledge that agree on these types

module _ (w : TypeSets) (a b : Known) (agree : AgreeIn w a b) where
  form_alike : (u : Bool) (k : Kind) (d : Descriptor) → IsIn w k
      → option_and_then (shape_of_form a) (row_form u k d).form ≡ option_and_then (shape_of_form b) (row_form u k d).form
  form_alike u (kind.Integer width signed) d at = then_map (shape_of_form a) (shape_of_form b) (form.Int width) (λ x. refl) (sign_by width signed d)
  form_alike u (kind.NativeInteger signed) d at = then_map (shape_of_form a) (shape_of_form b) form.Native (λ x. refl) (sign_by Eight signed d)
  form_alike u kind.Boolean d at = then_map (shape_of_form a) (shape_of_form b) form.Bool (λ x. refl) (bool_width_by d)
  form_alike u kind.Character d at = then_map (shape_of_form a) (shape_of_form b) form.Char (λ x. refl) (char_width_by u d)
  form_alike u kind.Pointer Nothing at = refl
  form_alike u kind.Pointer Unread at = refl
  form_alike u kind.Pointer (Is s) at = refl
  form_alike u kind.Text Nothing at = refl
  form_alike u kind.Text Unread at = refl
  form_alike u kind.Text (Is (Plain code)) at = then_map (shape_of_form a) (shape_of_form b) form.Text (λ x. refl) (encoding_by u (Is (Plain code)))
  form_alike u kind.Text (Is (ByValText count)) at =
      then_when (shape_of_form a) (shape_of_form b) (nat_le 1 count) (form.InlineText (encoding_of u) count) refl
  form_alike u kind.Text (Is (ByValArray count code)) at = refl
  form_alike u kind.Text (Is (LpArray code parameter count flag)) at = refl
  form_alike u (kind.Struct ty) d at =
      then_when (shape_of_form a) (shape_of_form b) (is_plain 0x1B d) (form.Struct ty) (ap (option_map shape.Struct) (agree.structs ty at))
  form_alike u (kind.Delegate ty) d at =
      then_when (shape_of_form a) (shape_of_form b) (is_plain 0x26 d) (form.Thunk ty) (ap (λ (c : Bool). when c (Some (shape.Thunk ty))) (agree.callable ty at))
  form_alike u kind.Handle Nothing at = refl
  form_alike u kind.Handle Unread at = refl
  form_alike u kind.Handle (Is s) at = refl
  form_alike u kind.Other d at = refl

  one_alike : (u : Bool) (column : Column) (k : Kind) (d : Descriptor) → IsIn w k
      → first_entry (λ r. one_by a u r k d) column rows ≡ first_entry (λ r. one_by b u r k d) column rows
  one_alike u column k d at =
      the_entry a u column k d
      ∙ (ap (entry_if (cell_at (row_form u k d).row column)) (form_alike u k d at) ∙ sym (the_entry b u column k d))

  element_alike : (u : Bool) (column : Column) (k : Kind) (code : Option ℕ) → IsIn w k → element_by a u column k code ≡ element_by b u column k code
  element_alike u column k code at = ap (option_map (λ (e : Entry). e.shape)) (one_alike u column k (described code) at)

  behind_alike : (u : Bool) (k : Kind) (d : Descriptor) → IsIn w k → behind_pointer a u k d ≡ behind_pointer b u k d
  behind_alike u k Nothing at = element_alike u col.Element k None at
  behind_alike u k Unread at = refl
  behind_alike u k (Is (Plain code)) at = refl
  behind_alike u k (Is (ByValText count)) at = refl
  behind_alike u k (Is (ByValArray count code)) at = refl
  behind_alike u k (Is (LpArray code parameter count flag)) at = element_alike u col.Element k code at

  array_alike : (u : Bool) (column : Column) → column ≢ col.Field → (base : ℕ) (k : Kind) (d : Descriptor) → IsIn w k
      → entry_by a u column (Array base k) d ≡ entry_by b u column (Array base k) d
  array_alike u column n base k d at =
      the_array a u column n base k d ∙ (ap (pointed column) (behind_alike u k d at) ∙ sym (the_array b u column n base k d))

  in_place_alike : (u : Bool) (base : ℕ) (k : Kind) (d : Descriptor) → IsIn w k
      → shape_by a u row.InlineArrays (Array base k) d ≡ shape_by b u row.InlineArrays (Array base k) d
  in_place_alike u base k Nothing at = refl
  in_place_alike u base k Unread at = refl
  in_place_alike u base k (Is (Plain code)) at = refl
  in_place_alike u base k (Is (ByValText count)) at = refl
  in_place_alike u base k (Is (ByValArray count code)) at =
      ap (λ (o : Option Shape). when (nat_le 1 count) (option_map (λ (s : Shape). shape.InlineArray base s count) o)) (element_alike u col.InlineElement k code at)
  in_place_alike u base k (Is (LpArray code parameter count flag)) at = refl

  in_field_alike : (u : Bool) (base : ℕ) (k : Kind) (d : Descriptor) → IsIn w k
      → entry_by a u col.Field (Array base k) d ≡ entry_by b u col.Field (Array base k) d
  in_field_alike u base k d at = field_entry a u base k d ∙ (ap (entry_if Part) (in_place_alike u base k d at) ∙ sym (field_entry b u base k d))

  entry_alike : (u : Bool) (column : Column) (type : TypeKind) (d : Descriptor) → NeedsIn w type → entry_by a u column type d ≡ entry_by b u column type d
  entry_alike u column (One k) d at = one_alike u column k d at
  entry_alike u col.ByValue (Array base k) d at = array_alike u col.ByValue (λ h. let z : ⊥ = cc in z) base k d at
  entry_alike u col.ByReference (Array base k) d at = array_alike u col.ByReference (λ h. let z : ⊥ = cc in z) base k d at
  entry_alike u col.Returned (Array base k) d at = array_alike u col.Returned (λ h. let z : ⊥ = cc in z) base k d at
  entry_alike u col.Field (Array base k) d at = in_field_alike u base k d at
  entry_alike u col.Element (Array base k) d at = array_alike u col.Element (λ h. let z : ⊥ = cc in z) base k d at
  entry_alike u col.InlineElement (Array base k) d at = array_alike u col.InlineElement (λ h. let z : ⊥ = cc in z) base k d at
  entry_alike u col.CallbackValue (Array base k) d at = array_alike u col.CallbackValue (λ h. let z : ⊥ = cc in z) base k d at
  entry_alike u col.CallbackReference (Array base k) d at = array_alike u col.CallbackReference (λ h. let z : ⊥ = cc in z) base k d at
  entry_alike u col.CallbackReturned (Array base k) d at = array_alike u col.CallbackReturned (λ h. let z : ⊥ = cc in z) base k d at

  -- the shape of a value type
  fields_alike : (fs : List FieldFacts) → All (λ (f : FieldFacts). NeedsIn w f.kind) fs → map (field_shape a) fs ≡ map (field_shape b) fs
  fields_alike [] all = refl
  fields_alike (f ∷ fs) all =
      ap (λ (o : Option Shape). o ∷ map (field_shape a) fs) (ap (option_map (λ (e : Entry). e.shape)) (entry_alike f.unicode col.Field f.kind f.descriptor (first_of (λ (x : FieldFacts). NeedsIn w x.kind) f fs all)))
      ∙ ap (λ (os : List (Option Shape)). field_shape b f ∷ os) (fields_alike fs (rest_of (λ (x : FieldFacts). NeedsIn w x.kind) f fs all))

  struct_alike : (s : StructFacts) → All (λ (f : FieldFacts). NeedsIn w f.kind) s.fields → struct_shape a s ≡ struct_shape b s
  struct_alike s all =
      let shaped : List (Option Shape) → Option StructShape =
      λ shapes. option_map (λ (fields : List Shape). record {
        ty = s.ty;
        pack = s.pack;
        least = s.least;
        explicit = s.explicit;
        fields = fields;
        offsets = map (λ (f : FieldFacts). f.offset) s.fields;
      }) (all_some shapes) in
      ap shaped (fields_alike s.fields all)

  -- what is answered in a column, and why there is no answer
  crosses_alike : (u : Bool) (column : Column) (k : TypeKind) → NeedsIn w k → crosses a u column k ≡ crosses b u column k
  crosses_alike u column k at = λ i. list_any (λ (d : Descriptor). is_some (entry_alike u column k d at i)) simplest_descriptors

  entry_in_alike : (u : Bool) (column : Column) (p : Passed) → NeedsIn w p.kind → entry_in a u column p ≡ entry_in b u column p
  entry_in_alike u column p at =
      found (entry_by a u column p.kind p.descriptor) ∙ ap (found_entry b u column p) (entry_alike u column p.kind p.descriptor at)
    where
      found : (o : Option Entry) → found_entry a u column p o ≡ found_entry b u column p o
      found None = ap (λ (c : Bool). Err (cond c why.Descriptor why.Type0)) (crosses_alike u column p.kind at)
      found (Some e) = refl

  marked_alike : (u : Bool) (column : Column) (p : Passed) → NeedsIn w p.kind → marked_in a u column p ≡ marked_in b u column p
  marked_alike u column p at =
      ap (λ (r : Result Entry Why). and_then (λ (m : Marked). laid m.entry.shape m) (and_then (λ (e : Entry). with_mark e (mark_in e.cell p.flags)) r))
      (entry_in_alike u column p at)

  step_alike : (u : Bool) (k : ℕ) (p : Passed) → NeedsIn w p.kind → step_of a u k p ≡ step_of b u k p
  step_alike u k p at = ap (map_ok (step_by k)) (marked_alike u (cond p.reference col.ByReference col.ByValue) p at)

  received_alike : (params : List Passed) (k : ℕ) (p : Passed) → NeedsIn w p.kind → received_of a params k p ≡ received_of b params k p
  received_alike params k p at =
      ap
      (λ (r : Result Entry Why). map_ok (λ (m : Marked). record { received = received_by p m.entry.cell m.entry.shape; mark = m.mark })
      (and_then (λ (m : Marked). laid m.entry.shape m) (and_then (λ (e : Entry). with_mark e (mark_in e.cell p.flags)) (and_then (with_length params p) r))))
      (entry_in_alike false (cond p.reference col.CallbackReference col.CallbackValue) p at)

  returned_alike : (u : Bool) (column : Column) (o : Option Passed) → ((p : Passed) → o ≡ Some p → NeedsIn w p.kind)
      → returned a u column o ≡ returned b u column o
  returned_alike u column None at = refl
  returned_alike u column (Some p) at =
      ap (λ (r : Result Entry Why). cond p.reference (Err why.Type0) (map_ok returned_by (and_then (λ (e : Entry). laid e.shape e) r)))
      (entry_in_alike u column p (at p refl))

  -- a callback
  back_by_alike : (s : Signature) → SignatureIn w s → back_of_signature a s ≡ back_of_signature b s
  back_by_alike s at =
      ap (λ (r : Result Res Why). and_then (λ (ps : List ReceivedMark). map_ok (back_by ps) (refused_at TheResult r)) (each_from (received_of a s.params) 0 s.params))
      (returned_alike false col.CallbackReturned s.result at.result)
      ∙ ap
      (λ (r : Result (List ReceivedMark) Refused). and_then (λ (ps : List ReceivedMark). map_ok (back_by ps) (refused_at TheResult (returned b false col.CallbackReturned s.result))) r)
      (each_alike (λ (p : Passed). NeedsIn w p.kind) (received_of a s.params) (received_of b s.params) (received_alike s.params) 0 s.params at.params)

  back_alike : (invoke : Option Signature) → ((s : Signature) → invoke ≡ Some s → SignatureIn w s) → back_of a invoke ≡ back_of b invoke
  back_alike None at = refl
  back_alike (Some s) at =
      ap (λ (r : Result Back Refused). cond (is_plain_signature s) r (whole why.Type0)) (back_by_alike s (at s refl))

  -- a stub
  passed_alike : (u saves : Bool) (s : Signature) → SignatureIn w s → stub_of_passed a u saves s ≡ stub_of_passed b u saves s
  passed_alike u saves s at =
      ap (λ (r : Result Res Why). and_then (λ (steps : List Step). map_ok (stub_by saves steps) (refused_at TheResult r)) (each_from (step_of a u) 0 s.params))
      (returned_alike u col.Returned s.result at.result)
      ∙ ap
      (λ (r : Result (List Step) Refused). and_then (λ (steps : List Step). map_ok (stub_by saves steps) (refused_at TheResult (returned b u col.Returned s.result))) r)
      (each_alike (λ (p : Passed). NeedsIn w p.kind) (step_of a u) (step_of b u) (step_alike u) 0 s.params at.params)

  stub_by_alike : (i : Imported) (o : Option Signature) → ((s : Signature) → o ≡ Some s → SignatureIn w s) → stub_by_signature a i o ≡ stub_by_signature b i o
  stub_by_alike i None at = refl
  stub_by_alike i (Some s) at =
      ap (λ (r : Result Stub Refused). cond (i.is_static && is_plain_signature s) r (whole why.Type0)) (passed_alike i.unicode i.saves_error s (at s refl))

  stub_alike : (i : Imported) → ((s : Signature) → i.signature ≡ Some s → SignatureIn w s) → stub_of a i ≡ stub_of b i
  stub_alike i at =
      ap (λ (r : Result Stub Refused). cond i.preserves_signature r (whole why.PreserveSig)) (stub_by_alike i i.signature at)

  bare_alike : (k : TypeKind) → NeedsIn w k → bare_shape a k ≡ bare_shape b k
  bare_alike k at =
      ap (λ (r : Result Entry Why). refused_at Whole (map_ok (λ (e : Entry). e.shape) (and_then (λ (e : Entry). laid e.shape e) r)))
      (entry_in_alike false col.Field (bare k) at)

  pub only_needs : AnswerAlike w a b
  only_needs = record { steps = step_alike; stubs = stub_alike; backs = back_alike; shapes = bare_alike }

  -- needs followed once more
  pub followed_alike : (facts : TypeFacts) → AreClosed facts w → AgreeIn w (followed facts a) (followed facts b)
  followed_alike facts closed = record {
    structs = λ t in_it. shaped (facts.struct_of t) (λ s is. closed.structs t s in_it is);
    callable = λ t in_it. ap is_ok (back_alike (facts.invoke_of t) (λ s is. closed.delegates t s in_it is));
  }
    where
      shaped : (o : Option StructFacts) → ((s : StructFacts) → o ≡ Some s → All (λ (f : FieldFacts). NeedsIn w f.kind) s.fields)
          → option_and_then (struct_shape a) o ≡ option_and_then (struct_shape b) o
      shaped None at = refl
      shaped (Some s) at = struct_alike s (at s refl)

-- ---- types looked at alone

if_in : {A : Type 0} (holds : Bool) (x : Option A) → holds ≡ true → x ≡ (if holds then x else None)
if_in true x h = refl
if_in false x h = absurd (cc)

kept : (facts : TypeFacts) (w : TypeSets) (known : Known) → AgreeIn w (followed facts known) (followed (restricted w facts) known)
kept facts w known = record {
  structs = λ t in_it. ap (option_and_then (struct_shape known)) (if_in (w.structs t) (facts.struct_of t) in_it);
  callable = λ t in_it. ap (λ (o : Option Signature). is_ok (back_of known o)) (if_in (w.delegates t) (facts.invoke_of t) in_it);
}

both : (w : TypeSets) (a b c : Known) → AgreeIn w a b → AgreeIn w b c → AgreeIn w a c
both w a b c ab bc = record {
  structs = λ t in_it. ab.structs t in_it ∙ bc.structs t in_it;
  callable = λ t in_it. ab.callable t in_it ∙ bc.callable t in_it;
}

pub enough : (facts : TypeFacts) (w : TypeSets) → AreClosed facts w → (n : ℕ) → AgreeIn w (known_after facts n) (known_after (restricted w facts) n)
unfolding known_after
enough facts w closed zero = record { structs = λ t in_it. refl; callable = λ t in_it. refl }
enough facts w closed (suc n) =
    let before : AgreeIn w (known_after facts n) (known_after (restricted w facts) n) = enough facts w closed n in
    let next : AgreeIn w (followed facts (known_after facts n)) (followed facts (known_after (restricted w facts) n)) =
    followed_alike w (known_after facts n) (known_after (restricted w facts) n) before facts closed in
    let alone = kept facts w (known_after (restricted w facts) n) in
    record {
      structs = λ t in_it. next.structs t in_it ∙ alone.structs t in_it;
      callable = λ t in_it. next.callable t in_it ∙ alone.callable t in_it;
    }
