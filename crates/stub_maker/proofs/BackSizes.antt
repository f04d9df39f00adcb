-- How a callback crosses can be printed, and so can the shape of a type without a descriptor.
use Rattle.std.proofs.Common.{◌≡◌, ◌≢◌, inl, inr, ℕ, ◌+◌, ◌<◌, ◌^◌, Bool, true, false, cond, List, [], ◌∷◌, map, Option, Some, None, Result, Ok, Err, IfOk, All, refl, sym, ap, subst, ◌∙◌}
use Rattle.std.proofs.lemmas.List.Elements.{All-cons, All-nil}
use Rattle.native_layout.specs.declared.shapes.Shape.{Shape}
use Rattle.native_layout.specs.Shapes.{measure}
use Rattle.stub_maker.specs.declared.kinds.Kind.{Kind}
use Rattle.stub_maker.specs.declared.kinds.Kind.TheVariants as kind
use Rattle.stub_maker.specs.declared.kinds.Form.{Form}
use Rattle.stub_maker.specs.declared.kinds.Passed.{Passed}
use Rattle.stub_maker.specs.declared.kinds.TypeKind.{TypeKind}
use Rattle.stub_maker.specs.declared.kinds.TypeKind.TheVariants.{One, Array}
use Rattle.stub_maker.specs.declared.kinds.Descriptor.TheVariants.{Nothing}
use Rattle.stub_maker.specs.declared.table.Row.{Row}
use Rattle.stub_maker.specs.declared.table.Row.TheVariants as row
use Rattle.stub_maker.specs.declared.table.Column.{Column}
use Rattle.stub_maker.specs.declared.table.Column.TheVariants as column
use Rattle.stub_maker.specs.declared.table.Cell.{Cell}
use Rattle.stub_maker.specs.declared.table.Cell.TheVariants as cell
use Rattle.stub_maker.specs.declared.backs.ReceivedMark.{ReceivedMark}
use Rattle.stub_maker.specs.declared.stub.Back.{Back}
use Rattle.stub_maker.specs.declared.signature.Signature.{Signature}
use Rattle.stub_maker.specs.declared.refused.Param.TheVariants.{Arg, Result as TheResult, Whole}
use Rattle.stub_maker.specs.declared.refused.StubBad.{StubBad}
use Rattle.stub_maker.specs.declared.refused.StubBad.TheVariants.{Outside, Memory}
use Rattle.stub_maker.specs.declared.refused.Why.{Why}
use Rattle.stub_maker.specs.declared.refused.Why.TheVariants as why
use Rattle.stub_maker.specs.Answers.{and_then, map_ok}
use Rattle.stub_maker.specs.Table.{cell_at, rows}
use Rattle.stub_maker.specs.Forms.{form_by}
use Rattle.stub_maker.specs.Shapes.{Entry, Known, entry_by, entry_if, one_by, shape_by, shape_of_form}
use Rattle.stub_maker.specs.Extents.{is_laid_out, size}
use Rattle.stub_maker.specs.Rules.{Marked, Refused, each_from, entry_in, is_plain_signature, laid, mark_in, refused_at, returned, whole, with_mark}
use Rattle.stub_maker.specs.Callbacks.{back_by, back_of, back_of_signature, length_is_there, marked_of, received_by, received_of, with_length}
use Rattle.stub_maker.specs.Described.{bare, bare_shape}
use Rattle.stub_maker.specs.Crossing.{IsReturned}
use Rattle.stub_maker.specs.Sized.{IsInOrder, IsSized, IsSizedBack, IsSizedReceived}
use Rattle.stub_maker.specs.InOrder.{entered, entry_in_order, first_in_row, joined_some}
use Rattle.stub_maker.proofs.Orderly.{and_then_ok, map_ok_ok, refused_at_ok}
use Rattle.stub_maker.proofs.Sizes.{form_in_place, form_narrow, found_sized, found_some, laid_few, laid_ok, laid_shallow, laid_stands, not_inline, outside, result_sized, with_mark_ok}

-- ---- callbacks

received_cell_sized : (p : Passed) (c : Cell) (s : Shape) → IsSized s → IsSizedReceived (received_by p c s)
received_cell_sized p cell.Outside s h = h
received_cell_sized p cell.Word s h = h
received_cell_sized p cell.Text s h = tt
received_cell_sized p cell.Value s h = h
received_cell_sized p cell.PlainValue s h = h
received_cell_sized p cell.Place s h = h
received_cell_sized p cell.PlainPlace s h = h
received_cell_sized p cell.Lend s h = h
received_cell_sized p cell.Copy s h = h
received_cell_sized p cell.CountedCopy s h = h
received_cell_sized p cell.Thunk s h = h
received_cell_sized p cell.Hold s h = h
received_cell_sized p cell.Part s h = h
received_cell_sized p cell.FlatPart s h = h

counted : (b : Bool) (e x : Entry) → cond b (Ok e) (Err why.Descriptor) ≡ Ok x → e ≡ x
counted true e x h = cc
counted false e x h = absurd (cc)

received_column : (b : Bool) → cond b column.CallbackReference column.CallbackValue ≢ column.Field
received_column true h = cc
received_column false h = cc

plain_ok : (b : Bool) (r : Result Back Refused) (back : Back) → cond b r (whole why.Type0) ≡ Ok back → r ≡ Ok back
plain_ok true r back h = h
plain_ok false r back h = absurd (cc)

abbrev with_its_mark : Passed → Marked → ReceivedMark
with_its_mark p m = record { received = received_by p m.entry.cell m.entry.shape; mark = m.mark }

module _ (known : Known) (ordered : IsInOrder known) where
  marked_of_sized : (params : List Passed) (p : Passed) (m : Marked) → marked_of known params p ≡ Ok m → IsSized m.entry.shape
  marked_of_sized params p m h =
      let c : Column = cond p.reference column.CallbackReference column.CallbackValue in
      let f = and_then_ok (λ (x : Marked). laid x.entry.shape x) (and_then (λ (e : Entry). with_mark e (mark_in e.cell p.flags)) (and_then (with_length params p) (entry_in known false c p))) m h in
      let l = laid_ok f.value.entry.shape f.value m f.then in
      let g = and_then_ok (λ (e : Entry). with_mark e (mark_in e.cell p.flags)) (and_then (with_length params p) (entry_in known false c p)) f.value f.was in
      let w = and_then_ok (with_length params p) (entry_in known false c p) g.value g.was in
      let first : w.value ≡ g.value = counted (length_is_there w.value.cell params p.descriptor) w.value g.value w.then in
      let second : g.value ≡ f.value.entry = with_mark_ok g.value (mark_in g.value.cell p.flags) f.value g.then in
      let same : w.value.shape ≡ f.value.entry.shape = ap (λ (e : Entry). e.shape) (first ∙ second) in
      let all : w.value.shape ≡ m.entry.shape = same ∙ ap (λ (x : Marked). x.entry.shape) l.1 in
      subst IsSized all (found_sized known ordered false c (received_column p.reference) p w.value w.was (ap is_laid_out same ∙ l.0))

  received_sized : (params : List Passed) (k : ℕ) (p : Passed) (r : ReceivedMark) → received_of known params k p ≡ Ok r → IsSizedReceived r.received
  received_sized params k p r h =
      let m = map_ok_ok (with_its_mark p) (marked_of known params p) r h in
      let one : IsSizedReceived (with_its_mark p m.value).received =
      received_cell_sized p m.value.entry.cell m.value.entry.shape (marked_of_sized params p m.value m.was) in
      subst (λ (x : ReceivedMark). IsSizedReceived x.received) m.is one

  each_sized : (params : List Passed) (k : ℕ) (ps : List Passed) (rs : List ReceivedMark) → each_from (received_of known params) k ps ≡ Ok rs
      → All IsSizedReceived (map (λ r. r.received) rs)
  each_sized params k [] rs h = let same : [] ≡ rs = cc in subst (λ (xs : List ReceivedMark). All IsSizedReceived (map (λ r. r.received) xs)) same (All-nil IsSizedReceived)
  each_sized params k (p ∷ ps) rs h =
      let f = and_then_ok (λ (a : ReceivedMark). map_ok (λ (rest : List ReceivedMark). a ∷ rest) (each_from (received_of known params) (k + 1) ps)) (refused_at (Arg k) (received_of known params k p)) rs h in
      let g = map_ok_ok (λ (rest : List ReceivedMark). f.value ∷ rest) (each_from (received_of known params) (k + 1) ps) rs f.then in
      let first = received_sized params k p f.value (refused_at_ok (Arg k) (received_of known params k p) f.value f.was) in
      let rest = each_sized params (k + 1) ps g.value g.was in
      subst (λ (xs : List ReceivedMark). All IsSizedReceived (map (λ r. r.received) xs)) g.is
      (All-cons IsSizedReceived f.value.received (map (λ r. r.received) g.value) first rest)

  signature_sized : (s : Signature) (back : Back) → back_of_signature known s ≡ Ok back → IsSizedBack back
  signature_sized s back h =
      let f = and_then_ok (λ (params : List ReceivedMark). map_ok (back_by params) (refused_at TheResult (returned known false column.CallbackReturned s.result))) (each_from (received_of known s.params) 0 s.params) back h in
      let g = map_ok_ok (back_by f.value) (refused_at TheResult (returned known false column.CallbackReturned s.result)) back f.then in
      let made : IsSizedBack (back_by f.value g.value) = record {
        params = each_sized s.params 0 s.params f.value f.was;
        result_way = result_sized known ordered false column.CallbackReturned (λ same. cc) s.result g.value (refused_at_ok TheResult (returned known false column.CallbackReturned s.result) g.value g.was);
      } in
      subst IsSizedBack g.is made

  pub answered_signature_sized : (s : Signature) (r : Result Back StubBad) → IsReturned r (back_of_signature known s) → IfOk r IsSizedBack
  answered_signature_sized s (Ok back) h = signature_sized s back h
  answered_signature_sized s (Err (Outside p w)) h = tt
  answered_signature_sized s (Err Memory) h = tt

  pub back_sized : (invoke : Option Signature) (back : Back) → back_of known invoke ≡ Ok back → IsSizedBack back
  back_sized None back h = absurd (cc)
  back_sized (Some s) back h = signature_sized s back (plain_ok (is_plain_signature s) (back_of_signature known s) back h)

-- ---- types without a descriptor

no_text_in_place : (u : Bool) (k : Kind) → form_by u row.InlineTexts k Nothing ≡ None
no_text_in_place u (kind.Integer width signed) = refl
no_text_in_place u (kind.NativeInteger signed) = refl
no_text_in_place u kind.Boolean = refl
no_text_in_place u kind.Character = refl
no_text_in_place u kind.Pointer = refl
no_text_in_place u kind.Text = refl
no_text_in_place u (kind.Struct ty) = refl
no_text_in_place u (kind.Delegate ty) = refl
no_text_in_place u kind.Handle = refl
no_text_in_place u kind.Other = refl

none_some : {A : Type 0} (a : A) → None ≡ Some a → ⊥
none_some a e = cc

plain_form : (u : Bool) (r : Row) (k : Kind) (f : Form) → form_by u r k Nothing ≡ Some f → not_inline f ≡ true
plain_form u r k f h =
    elim (form_in_place u r k Nothing f h) [
      | inl texts ↦ absurd (none_some f (sym (ap (λ (x : Row). form_by u x k Nothing) texts ∙ no_text_in_place u k) ∙ h))
      | inr plain ↦ plain
    ]

module _ (known : Known) (ordered : IsInOrder known) where
  bare_narrow : (r : Row) (k : TypeKind) (e : Entry) → entry_if (cell_at r column.Field) (shape_by known false r k Nothing) ≡ Some e
      → (measure e.shape).stands ≡ true → size e.shape < 2 ^ 64
  bare_narrow r (One k) e h l =
      let there : one_by known false r k Nothing ≡ Some e.shape = entered (cell_at r column.Field) (one_by known false r k Nothing) e h in
      let j = joined_some (shape_of_form known) (form_by false r k Nothing) e.shape there in
      form_narrow known ordered j.value e.shape (plain_form false r k j.value j.was) j.then l
  bare_narrow row.FlatArrays (Array base k) e h l = absurd (outside (shape_by known false row.FlatArrays (Array base k) Nothing) e h)
  bare_narrow row.OtherArrays (Array base k) e h l = absurd (outside (shape_by known false row.OtherArrays (Array base k) Nothing) e h)
  bare_narrow _ (Array base k) e h l = absurd (cc)

  bare_entry_sized : (k : TypeKind) (e : Entry) → entry_by known false column.Field k Nothing ≡ Some e → is_laid_out e.shape ≡ true → IsSized e.shape
  bare_entry_sized k e h l =
      let i = first_in_row (λ r. shape_by known false r k Nothing) column.Field rows e h in
      let stands = laid_stands e.shape l in record {
        order = entry_in_order known ordered false column.Field k Nothing e h;
        stands = stands;
        shallow = laid_shallow e.shape l;
        few = laid_few e.shape l;
        narrow = bare_narrow i.row k e i.is stands;
      }

  pub bare_sized : (k : TypeKind) (s : Shape) → bare_shape known k ≡ Ok s → IsSized s
  bare_sized k s h =
      let entry : Result Entry Why = entry_in known false column.Field (bare k) in
      let there = refused_at_ok Whole (map_ok (λ (e : Entry). e.shape) (and_then (λ (e : Entry). laid e.shape e) entry)) s h in
      let m = map_ok_ok (λ (e : Entry). e.shape) (and_then (λ (e : Entry). laid e.shape e) entry) s there in
      let f = and_then_ok (λ (e : Entry). laid e.shape e) entry m.value m.was in
      let l = laid_ok f.value.shape f.value m.value f.then in
      let is = found_some known false column.Field (bare k) f.value (entry_by known false column.Field k Nothing) f.was in
      subst IsSized (ap (λ (e : Entry). e.shape) l.1 ∙ m.is) (bare_entry_sized k f.value is l.0)

  pub answered_bare_sized : (k : TypeKind) (r : Result Shape StubBad) → IsReturned r (bare_shape known k) → IfOk r IsSized
  answered_bare_sized k (Ok s) h = bare_sized k s h
  answered_bare_sized k (Err (Outside p w)) h = tt
  answered_bare_sized k (Err Memory) h = tt
