-- What is found, marked and laid out, against the rule over the table.
use Rattle.std.proofs.Common.{◌≡◌, ℕ, Bool, true, false, cond, Option, Some, None, Result, Ok, Err, IsTrue, IsSomeAnd, refl, sym, ap, subst, ◌∙◌}
use Rattle.native_layout.specs.declared.shapes.Shape.{Shape}
use Rattle.stub_maker.specs.declared.kinds.Passed.{Passed}
use Rattle.stub_maker.specs.declared.entries.Contents.{Contents}
use Rattle.stub_maker.specs.declared.entries.Found.{Found}
use Rattle.stub_maker.specs.declared.crossing.MarkedEntry.{MarkedEntry}
use Rattle.stub_maker.specs.declared.table.Cell.{Cell}
use Rattle.stub_maker.specs.declared.table.Column.{Column}
use Rattle.stub_maker.specs.declared.stub.Mark.{Mark}
use Rattle.stub_maker.specs.declared.stub.Res.{Res}
use Rattle.stub_maker.specs.declared.stub.Step.{Step}
use Rattle.stub_maker.specs.declared.refused.Why.{Why}
use Rattle.stub_maker.specs.declared.refused.Why.TheVariants as why
use Rattle.stub_maker.specs.Answers.{and_then, map_ok}
use Rattle.stub_maker.specs.Extents.{is_laid_out}
use Rattle.stub_maker.specs.Shapes.{Entry, Known, shape_of_form}
use Rattle.stub_maker.specs.Entries.{IsEntry, IsFound, IsLaidForm}
use Rattle.stub_maker.specs.Rules.{Marked, found_entry, laid, mark_in, refusal, returned_by, step_by, with_mark}
use Rattle.stub_maker.specs.Crossing.{IsChosen, IsLaid, IsMarked, marked_if, returned_in, step_in}

pub chosen_some : (known : Known) (u : Bool) (column : Column) (p : Passed) (f : Found) (o : Option Entry) → IsFound known (Some f) o
    → IsChosen known (Ok f) (found_entry known u column p o)
chosen_some known u column p f None h = absurd h
chosen_some known u column p f (Some e) h = h

pub chosen_none : (known : Known) (u : Bool) (column : Column) (p : Passed) (w : Why) (o : Option Entry) → IsFound known None o
    → w ≡ refusal known u column p → IsChosen known (Err w) (found_entry known u column p o)
chosen_none known u column p w None h e = e
chosen_none known u column p w (Some x) h e = absurd h

marked_at : (known : Known) (f : Found) (e : Entry) → IsEntry known f e → (o : Option Mark) (b : Bool) → is_laid_out e.shape ≡ b
    → IsMarked known (marked_if f o b) (and_then (λ m. laid m.entry.shape m) (with_mark e o))
marked_at known f e h None b l = refl
marked_at known f e h (Some m) true l =
    let P : Bool → Type 0 = λ x. IsMarked known (Ok (record { found = f; mark = m })) (cond x (Ok (record { entry = e; mark = m })) (Err why.Layout)) in
    subst P (sym l) (record { entry = h; mark = refl; laid = l })
marked_at known f e h (Some m) false l =
    let P : Bool → Type 0 = λ x. IsMarked known (Err why.Layout) (cond x (Ok (record { entry = e; mark = m })) (Err why.Layout)) in
    subst P (sym l) refl

-- an entry's mark and its layout are found of what is found
pub marked_ok : (known : Known) (f : Found) (flags : ℕ) (r : Result Entry Why) → IsChosen known (Ok f) r
    → IsMarked known (marked_if f (mark_in f.cell flags) f.contents.laid_out)
    (and_then (λ m. laid m.entry.shape m) (and_then (λ e. with_mark e (mark_in e.cell flags)) r))
marked_ok known f flags (Err w) h = absurd h
marked_ok known f flags (Ok e) h =
    let l : is_laid_out e.shape ≡ f.contents.laid_out = sym (ap (λ (c : Contents). c.laid_out) h.contents_are) in
    let P : Cell → Type 0 = λ c. IsMarked known (marked_if f (mark_in f.cell flags) f.contents.laid_out) (and_then (λ m. laid m.entry.shape m) (with_mark e (mark_in c flags))) in
    subst P h.cell (marked_at known f e h (mark_in f.cell flags) f.contents.laid_out l)

pub marked_err : (known : Known) (flags : ℕ) (w : Why) (r : Result Entry Why) → IsChosen known (Err w) r
    → IsMarked known (Err w) (and_then (λ m. laid m.entry.shape m) (and_then (λ e. with_mark e (mark_in e.cell flags)) r))
marked_err known flags w (Err v) h = h
marked_err known flags w (Ok e) h = absurd h

-- the form of a marked entry has a shape that is laid out
pub laid_form : (known : Known) (m : MarkedEntry) (r : Result Marked Why) → IsMarked known (Ok m) r → IsLaidForm known m.found.form
laid_form known m (Err v) h = absurd h
laid_form known m (Ok n) h =
    let P : Option Shape → Type 0 = λ o. IsSomeAnd o (λ s. IsTrue (is_laid_out s)) in subst P (sym h.entry.shape) h.laid

pub step_err : (known : Known) (k : ℕ) (w : Why) (r : Result Marked Why) → IsMarked known (Err w) r → map_ok (step_by k) r ≡ Err w
step_err known k w (Err v) h = ap Err (sym h)
step_err known k w (Ok n) h = absurd h

step_ok : (known : Known) (k : ℕ) (m : MarkedEntry) (s : Shape) (r : Result Marked Why) → IsMarked known (Ok m) r
    → shape_of_form known m.found.form ≡ Some s → map_ok (step_by k) r ≡ Ok (step_in k m.found.cell m.mark s)
step_ok known k m s (Err v) h e = absurd h
step_ok known k m s (Ok n) h e =
    let there : Some n.entry.shape ≡ Some s = sym h.entry.shape ∙ e in
    let same : n.entry.shape ≡ s = cc in
    ap (λ (c : Cell). Ok (step_in k c n.mark n.entry.shape)) (sym h.entry.cell)
    ∙ (ap (λ (x : Mark). Ok (step_in k m.found.cell x n.entry.shape)) (sym h.mark)
    ∙ ap (λ (x : Shape). Ok (step_in k m.found.cell m.mark x)) same)

-- the step that is made of it
pub step_made : (known : Known) (k : ℕ) (m : MarkedEntry) (s : Shape) (r : Result Marked Why) (made : Step) → IsMarked known (Ok m) r
    → shape_of_form known m.found.form ≡ Some s → made ≡ step_in k m.found.cell m.mark s → map_ok (step_by k) r ≡ Ok made
step_made known k m s r made h e is = step_ok known k m s r h e ∙ ap Ok (sym is)

-- a result's layout is found of what is found
pub laid_ok : (known : Known) (f : Found) (r : Result Entry Why) → IsChosen known (Ok f) r → f.contents.laid_out ≡ true
    → IsLaid known (Ok f) (and_then (λ e. laid e.shape e) r)
laid_ok known f (Err w) h l = absurd h
laid_ok known f (Ok e) h l =
    let is : is_laid_out e.shape ≡ true = sym (ap (λ (c : Contents). c.laid_out) h.contents_are) ∙ l in
    let P : Bool → Type 0 = λ x. IsLaid known (Ok f) (cond x (Ok e) (Err why.Layout)) in
    subst P (sym is) (h, is)

pub laid_not : (known : Known) (f : Found) (r : Result Entry Why) → IsChosen known (Ok f) r → f.contents.laid_out ≡ false
    → IsLaid known (Err why.Layout) (and_then (λ e. laid e.shape e) r)
laid_not known f (Err w) h l = absurd h
laid_not known f (Ok e) h l =
    let is : is_laid_out e.shape ≡ false = sym (ap (λ (c : Contents). c.laid_out) h.contents_are) ∙ l in
    let P : Bool → Type 0 = λ x. IsLaid known (Err why.Layout) (cond x (Ok e) (Err why.Layout)) in
    subst P (sym is) refl

pub laid_err : (known : Known) (w : Why) (r : Result Entry Why) → IsChosen known (Err w) r
    → IsLaid known (Err w) (and_then (λ e. laid e.shape e) r)
laid_err known w (Err v) h = h
laid_err known w (Ok e) h = absurd h

-- the form of an entry that is laid out
pub laid_out_form : (known : Known) (f : Found) (r : Result Entry Why) → IsLaid known (Ok f) r → IsLaidForm known f.form
laid_out_form known f (Err v) h = absurd h
laid_out_form known f (Ok e) h =
    let P : Option Shape → Type 0 = λ o. IsSomeAnd o (λ s. IsTrue (is_laid_out s)) in subst P (sym h.0.shape) h.1

pub result_err : (known : Known) (w : Why) (r : Result Entry Why) → IsLaid known (Err w) r → map_ok returned_by r ≡ Err w
result_err known w (Err v) h = ap Err (sym h)
result_err known w (Ok e) h = absurd h

result_ok : (known : Known) (f : Found) (s : Shape) (r : Result Entry Why) → IsLaid known (Ok f) r
    → shape_of_form known f.form ≡ Some s → map_ok returned_by r ≡ Ok (returned_in f.cell s)
result_ok known f s (Err v) h e = absurd h
result_ok known f s (Ok x) h e =
    let there : Some x.shape ≡ Some s = sym h.0.shape ∙ e in
    let same : x.shape ≡ s = cc in
    ap (λ (c : Cell). Ok (returned_in c x.shape)) (sym h.0.cell) ∙ ap (λ (y : Shape). Ok (returned_in f.cell y)) same

-- the result that is made of it
pub result_made : (known : Known) (f : Found) (s : Shape) (r : Result Entry Why) (made : Res) → IsLaid known (Ok f) r
    → shape_of_form known f.form ≡ Some s → made ≡ returned_in f.cell s → map_ok returned_by r ≡ Ok made
result_made known f s r made h e is = result_ok known f s r h e ∙ ap Ok (sym is)
