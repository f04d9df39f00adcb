-- The steps of a stub are numbered in order, and so are those chosen among them.
use Rattle.std.proofs.Common.{◌≡◌, ℕ, zero, suc, ◌+◌, ◌≤◌, Bool, true, false, List, [], ◌∷◌, length, map, cond, ◌&&◌, Option, Some, Result, Ok, Err, refl, ap, sym, subst, arith, ◌∙◌}
use Rattle.std.specs.List.{range_with_len, filter}
use Rattle.std.proofs.lemmas.List.{reverse-reverse}
use Rattle.stub_maker.specs.declared.kinds.Passed.{Passed}
use Rattle.stub_maker.specs.declared.table.Cell.{Cell}
use Rattle.stub_maker.specs.declared.table.Cell.TheVariants as cell
use Rattle.stub_maker.specs.declared.table.Column.TheVariants as column
use Rattle.native_layout.specs.declared.shapes.Shape.{Shape}
use Rattle.stub_maker.specs.declared.stub.Mark.{Mark}
use Rattle.stub_maker.specs.declared.stub.Step.{Step}
use Rattle.stub_maker.specs.declared.stub.Stub.{Stub}
use Rattle.stub_maker.specs.declared.refused.Param.{Param}
use Rattle.stub_maker.specs.declared.refused.Param.TheVariants.{Arg, Result as TheResult}
use Rattle.stub_maker.specs.declared.refused.Why.{Why}
use Rattle.stub_maker.specs.declared.refused.Why.TheVariants as why
use Rattle.stub_maker.specs.Answers.{and_then, map_ok}
use Rattle.stub_maker.specs.Shapes.{Known}
use Rattle.stub_maker.specs.Steps.{argument_of}
use Rattle.stub_maker.specs.declared.signature.Imported.{Imported}
use Rattle.stub_maker.specs.declared.signature.Signature.{Signature}
use Rattle.stub_maker.specs.Rules.{Marked, Refused, each_from, is_plain_signature, is_read_back, marked, may_lend, refused_at, returned, step_by, step_of, stub_by, stub_by_signature, stub_of, stub_of_signature, whole}
use Rattle.stub_maker.specs.Laws.{IsOrderly, RiseFrom}
use Rattle.stub_maker.proofs.Chosen.{back_is, ends_are}

-- where what follows an answer is an answer, there was one before
pub record Followed {A B E : Type 0} (next : A → Result B E) (r : Result A E) (b : B) : Type 0 where
  pub value : A
  pub was : r ≡ Ok value
  pub then : next value ≡ Ok b

pub and_then_ok : {A B E : Type 0} (next : A → Result B E) (r : Result A E) (b : B) → and_then next r ≡ Ok b → Followed next r b
and_then_ok next (Ok a) b e = record { value = a; was = refl; then = e }
and_then_ok next (Err x) b e = absurd (let h : ⊥ = cc in h)

pub record Mapped {A B E : Type 0} (f : A → B) (r : Result A E) (b : B) : Type 0 where
  pub value : A
  pub was : r ≡ Ok value
  pub is : f value ≡ b

pub map_ok_ok : {A B E : Type 0} (f : A → B) (r : Result A E) (b : B) → map_ok f r ≡ Ok b → Mapped f r b
map_ok_ok f (Ok a) b e = record { value = a; was = refl; is = (let h : f a ≡ b = cc in h) }
map_ok_ok f (Err x) b e = absurd (let h : ⊥ = cc in h)

pub refused_at_ok : {A : Type 0} (p : Param) (r : Result A Why) (a : A) → refused_at p r ≡ Ok a → r ≡ Ok a
refused_at_ok p (Ok x) a e = let h : x ≡ a = cc in ap Ok h
refused_at_ok p (Err x) a e = absurd (let h : ⊥ = cc in h)

-- the step of argument k is numbered k
numbered_at : (k : ℕ) (c : Cell) (s : Shape) (m : Mark) → argument_of (step_by k (record { entry = record { cell = c; shape = s }; mark = m })) ≡ k
numbered_at k cell.Outside s m = refl
numbered_at k cell.Word s m = refl
numbered_at k cell.Text s m = refl
numbered_at k cell.Value s m = refl
numbered_at k cell.PlainValue s m = refl
numbered_at k cell.Place s m = refl
numbered_at k cell.PlainPlace s m = refl
numbered_at k cell.Lend s m = refl
numbered_at k cell.Copy s m = refl
numbered_at k cell.CountedCopy s m = refl
numbered_at k cell.Thunk s m = refl
numbered_at k cell.Hold s m = refl
numbered_at k cell.Part s m = refl
numbered_at k cell.FlatPart s m = refl

pub numbered : (k : ℕ) (m : Marked) → argument_of (step_by k m) ≡ k
numbered k m = numbered_at k m.entry.cell m.entry.shape m.mark

step_numbered : (known : Known) (u : Bool) (k : ℕ) (p : Passed) (s : Step) → step_of known u k p ≡ Ok s → argument_of s ≡ k
step_numbered known u k p s e =
    let m = map_ok_ok (step_by k) (marked known u column.ByValue column.ByReference p) s e in
    sym (ap argument_of m.is) ∙ numbered k m.value

pub steps_numbered : (known : Known) (u : Bool) (k : ℕ) (ps : List Passed) (steps : List Step)
    → each_from (step_of known u) k ps ≡ Ok steps → map argument_of steps ≡ range_with_len k (length ps)
steps_numbered known u k [] steps e = let h : steps ≡ [] = cc in ap (map argument_of) h
steps_numbered known u k (p ∷ ps) steps e =
    let f = and_then_ok (λ (a : Step). map_ok (λ (rest : List Step). a ∷ rest) (each_from (step_of known u) (k + 1) ps)) (refused_at (Arg k) (step_of known u k p)) steps e in
    let first : argument_of f.value ≡ k = step_numbered known u k p f.value (refused_at_ok (Arg k) (step_of known u k p) f.value f.was) in
    let g = map_ok_ok (λ (rest : List Step). f.value ∷ rest) (each_from (step_of known u) (k + 1) ps) steps f.then in
    let others : map argument_of g.value ≡ range_with_len (k + 1) (length ps) = steps_numbered known u (k + 1) ps g.value g.was in
    let all : argument_of f.value ∷ map argument_of g.value ≡ map argument_of steps = ap (map argument_of) g.is in
    cc

-- numbers chosen among some that rise one by one rise
pub rise_less : (a b : ℕ) (ns : List ℕ) → a ≤ b → RiseFrom b ns → RiseFrom a ns
rise_less a b [] h r = tt
rise_less a b (n ∷ ns) h r = (omega (arith, r.0), r.1)

pub chosen_rise : (p : Step → Bool) (k n : ℕ) (steps : List Step) → map argument_of steps ≡ range_with_len k n
    → RiseFrom k (map argument_of (filter p steps))
chosen_rise p k n [] e = tt
chosen_rise p k zero (s ∷ steps) e = absurd (let h : ⊥ = cc in h)
chosen_rise p k (suc n) (s ∷ steps) e =
    let here : argument_of s ≡ k = cc in
    let rest : map argument_of steps ≡ range_with_len (k + 1) n = cc in
    let more : RiseFrom (k + 1) (map argument_of (filter p steps)) = chosen_rise p (k + 1) n steps rest in
    elim (p s) as (λ b. RiseFrom k (map argument_of (cond b (s ∷ filter p steps) (filter p steps)))) [
      | true ↦ (omega (arith, here), rise_less (argument_of s + 1) (k + 1) (map argument_of (filter p steps)) (omega (arith, here)) more)
      | false ↦ rise_less k (k + 1) (map argument_of (filter p steps)) (omega arith) more
    ]

pub if_ok : (b : Bool) (r : Result Stub Refused) (w : Why) (stub : Stub) → cond b r (whole w) ≡ Ok stub → r ≡ Ok stub
if_ok true r w stub e = e
if_ok false r w stub e = absurd (let h : ⊥ = cc in h)

orderly_parts : (known : Known) (i : Imported) (s : Signature) (stub : Stub) → stub_of_signature known i s ≡ Ok stub → IsOrderly s.params stub
orderly_parts known i s stub e =
    let f = and_then_ok (λ (steps : List Step). map_ok (stub_by i.saves_error steps) (refused_at TheResult (returned known i.unicode column.Returned s.result))) (each_from (step_of known i.unicode) 0 s.params) stub e in
    let g = map_ok_ok (stub_by i.saves_error f.value) (refused_at TheResult (returned known i.unicode column.Returned s.result)) stub f.then in
    let n : map argument_of f.value ≡ range_with_len 0 (length s.params) = steps_numbered known i.unicode 0 s.params f.value f.was in
    let made : IsOrderly s.params (stub_by i.saves_error f.value g.value) = record {
      steps = n;
      back = back_is (length s.params) f.value n;
      back_rises = chosen_rise is_read_back 0 (length s.params) f.value n;
      ends = ends_are (length s.params) f.value n;
      ends_fall = subst (RiseFrom 0) (sym (reverse-reverse (map argument_of (filter may_lend f.value)))) (chosen_rise may_lend 0 (length s.params) f.value n);
    } in
    subst (IsOrderly s.params) g.is made

pub orderly : (known : Known) (i : Imported) (s : Signature) (stub : Stub) → i.signature ≡ Some s → stub_of known i ≡ Ok stub → IsOrderly s.params stub
orderly known i s stub e h =
    let a : stub_by_signature known i i.signature ≡ Ok stub = if_ok i.preserves_signature (stub_by_signature known i i.signature) why.PreserveSig stub h in
    let P : Option Signature → Type 0 = λ o. stub_by_signature known i o ≡ Ok stub in
    let b : stub_by_signature known i (Some s) ≡ Ok stub = subst P e a in
    orderly_parts known i s stub (if_ok (i.is_static && is_plain_signature s) (stub_of_signature known i s) why.Type0 stub b)
