-- Whether callbacks cross, by what is found of their parameters and results.
use Rattle.std.proofs.Common.{◌≡◌, ℕ, ◌+◌, ◌<◌, Bool, true, false, List, length, take, get_or, Result, Ok, Err, is_ok, cond, refl, sym, ap, subst, ◌∙◌}
use Rattle.stub_maker.specs.declared.kinds.Passed.{Passed}
use Rattle.stub_maker.specs.declared.entries.Found.{Found}
use Rattle.stub_maker.specs.declared.crossing.MarkedEntry.{MarkedEntry}
use Rattle.stub_maker.specs.declared.table.Cell.{Cell}
use Rattle.stub_maker.specs.declared.refused.Why.{Why}
use Rattle.stub_maker.specs.declared.refused.Why.TheVariants as why
use Rattle.stub_maker.specs.Answers.{and_then, map_ok}
use Rattle.stub_maker.specs.Shapes.{Entry, Known}
use Rattle.stub_maker.specs.Rules.{Marked, each_from}
use Rattle.stub_maker.specs.Callbacks.{length_is_there, marked_of, received_of, with_length}
use Rattle.stub_maker.specs.Crossing.{IsChosen, IsLaid, IsMarked}
use Rattle.stub_maker.proofs.Stepping.{step_stopped, step_taken}

-- an entry has its length, or hasn't
pub counted_err : (known : Known) (ps : List Passed) (p : Passed) (w : Why) (r : Result Entry Why) → IsChosen known (Err w) r
    → IsChosen known (Err w) (and_then (with_length ps p) r)
counted_err known ps p w (Err v) h = h
counted_err known ps p w (Ok e) h = absurd h

pub counted_ok : (known : Known) (ps : List Passed) (p : Passed) (f : Found) (r : Result Entry Why) → IsChosen known (Ok f) r
    → length_is_there f.cell ps p.descriptor ≡ true → IsChosen known (Ok f) (and_then (with_length ps p) r)
counted_ok known ps p f (Err v) h l = absurd h
counted_ok known ps p f (Ok e) h l =
    let is : length_is_there e.cell ps p.descriptor ≡ true = ap (λ (c : Cell). length_is_there c ps p.descriptor) (sym h.cell) ∙ l in
    let P : Bool → Type 0 = λ b. IsChosen known (Ok f) (cond b (Ok e) (Err why.Descriptor)) in
    subst P (sym is) h

pub counted_not : (known : Known) (ps : List Passed) (p : Passed) (f : Found) (r : Result Entry Why) → IsChosen known (Ok f) r
    → length_is_there f.cell ps p.descriptor ≡ false → IsChosen known (Err why.Descriptor) (and_then (with_length ps p) r)
counted_not known ps p f (Err v) h l = absurd h
counted_not known ps p f (Ok e) h l =
    let is : length_is_there e.cell ps p.descriptor ≡ false = ap (λ (c : Cell). length_is_there c ps p.descriptor) (sym h.cell) ∙ l in
    let P : Bool → Type 0 = λ b. IsChosen known (Err why.Descriptor) (cond b (Ok e) (Err why.Descriptor)) in
    subst P (sym is) refl

pub marked_is_ok : (known : Known) (r : Result MarkedEntry Why) (s : Result Marked Why) → IsMarked known r s → is_ok r ≡ is_ok s
marked_is_ok known (Ok m) (Ok n) h = refl
marked_is_ok known (Err w) (Err v) h = refl
marked_is_ok known (Ok m) (Err v) h = absurd h
marked_is_ok known (Err w) (Ok n) h = absurd h

pub laid_is_ok : (known : Known) (r : Result Found Why) (s : Result Entry Why) → IsLaid known r s → is_ok r ≡ is_ok s
laid_is_ok known (Ok f) (Ok e) h = refl
laid_is_ok known (Err w) (Err v) h = refl
laid_is_ok known (Ok f) (Err v) h = absurd h
laid_is_ok known (Err w) (Ok e) h = absurd h

pub mapped_is_ok : {A B E : Type 0} (f : A → B) (r : Result A E) → is_ok r ≡ is_ok (map_ok f r)
mapped_is_ok f (Ok a) = refl
mapped_is_ok f (Err x) = refl

-- a value, or a refusal
record AnOk {A E : Type 0} (r : Result A E) : Type 0 where
  pub value : A
  pub was : r ≡ Ok value

an_ok : {A E : Type 0} (r : Result A E) → is_ok r ≡ true → AnOk r
an_ok (Ok a) h = record { value = a; was = refl }
an_ok (Err x) h = absurd (let z : ⊥ = cc in z)

record AnErr {A E : Type 0} (r : Result A E) : Type 0 where
  pub why : E
  pub was : r ≡ Err why

an_err : {A E : Type 0} (r : Result A E) → is_ok r ≡ false → AnErr r
an_err (Err x) h = record { why = x; was = refl }
an_err (Ok a) h = absurd (let z : ⊥ = cc in z)

-- one parameter more is received
pub ok_more : (known : Known) (params ps : List Passed) (i : ℕ) (d : Passed) → i < length ps
    → is_ok (each_from (received_of known params) 0 (take i ps)) ≡ true → is_ok (marked_of known params (get_or ps i d)) ≡ true
    → is_ok (each_from (received_of known params) 0 (take (i + 1) ps)) ≡ true
ok_more known params ps i d within h one =
    let all = an_ok (each_from (received_of known params) 0 (take i ps)) h in
    let here = an_ok (received_of known params i (get_or ps i d)) (sym (mapped_is_ok _ (marked_of known params (get_or ps i d))) ∙ one) in
    ap is_ok (step_taken (received_of known params) ps i d all.value here.value within all.was here.was)

-- one isn't
pub ok_stops : (known : Known) (params ps : List Passed) (i : ℕ) (d : Passed) → i < length ps
    → is_ok (each_from (received_of known params) 0 (take i ps)) ≡ true → is_ok (marked_of known params (get_or ps i d)) ≡ false
    → is_ok (each_from (received_of known params) 0 ps) ≡ false
ok_stops known params ps i d within h one =
    let all = an_ok (each_from (received_of known params) 0 (take i ps)) h in
    let here = an_err (received_of known params i (get_or ps i d)) (sym (mapped_is_ok _ (marked_of known params (get_or ps i d))) ∙ one) in
    ap is_ok (step_stopped (received_of known params) ps i d all.value here.why within all.was here.was)
