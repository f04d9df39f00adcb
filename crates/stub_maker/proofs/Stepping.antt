-- Answers for parameters in order, one more at a time.
use Rattle.std.proofs.Common.{◌≡◌, ℕ, ◌+◌, ◌<◌, List, [], ◌∷◌, ◌++◌, length, take, drop, get_or, Result, Ok, Err, ap, sym, subst, arith, ◌∙◌}
use Rattle.std.proofs.lemmas.List.{take-append-drop, take_more, drop_more, length-take}
use Rattle.stub_maker.specs.declared.kinds.Passed.{Passed}
use Rattle.stub_maker.specs.declared.refused.Param.TheVariants.{Arg}
use Rattle.stub_maker.specs.declared.refused.StubBad.{StubBad}
use Rattle.stub_maker.specs.declared.refused.StubBad.TheVariants.{Outside, Memory}
use Rattle.stub_maker.specs.declared.refused.Why.{Why}
use Rattle.stub_maker.specs.Answers.{and_then, map_ok}
use Rattle.stub_maker.specs.Crossing.{IsReturned, IsStep}
use Rattle.stub_maker.specs.Rules.{each_from, refused_at}
use Rattle.stub_maker.proofs.Orderly.{and_then_ok, map_ok_ok, refused_at_ok}

-- the first answer and the others
record FirstOf {A : Type 0} (f : ℕ → Passed → Result A Why) (k : ℕ) (p : Passed) (ps : List Passed) (all : List A) : Type 0 where
  pub first : A
  pub others : List A
  pub was : f k p ≡ Ok first
  pub were : each_from f (k + 1) ps ≡ Ok others
  pub is : first ∷ others ≡ all

first_of : {A : Type 0} (f : ℕ → Passed → Result A Why) (k : ℕ) (p : Passed) (ps : List Passed) (all : List A)
    → each_from f k (p ∷ ps) ≡ Ok all → FirstOf f k p ps all
first_of {A} f k p ps all e =
    let h = and_then_ok (λ (a : A). map_ok (λ (rest : List A). a ∷ rest) (each_from f (k + 1) ps)) (refused_at (Arg k) (f k p)) all e in
    let g = map_ok_ok (λ (rest : List A). h.value ∷ rest) (each_from f (k + 1) ps) all h.then in record {
      first = h.value;
      others = g.value;
      was = refused_at_ok (Arg k) (f k p) h.value h.was;
      were = g.was;
      is = g.is;
    }

-- what follows an answer for the first parameter
each_after : {A : Type 0} (f : ℕ → Passed → Result A Why) (k : ℕ) (p : Passed) (ps : List Passed) (a : A) → f k p ≡ Ok a
    → each_from f k (p ∷ ps) ≡ map_ok (λ (rest : List A). a ∷ rest) (each_from f (k + 1) ps)
each_after {A} f k p ps a e =
    ap (λ (r : Result A Why). and_then (λ (b : A). map_ok (λ (rest : List A). b ∷ rest) (each_from f (k + 1) ps)) (refused_at (Arg k) r)) e

pub each_more : {A : Type 0} (f : ℕ → Passed → Result A Why) (k : ℕ) (ps : List Passed) (p : Passed) (all : List A) (a : A)
    → each_from f k ps ≡ Ok all → f (k + length ps) p ≡ Ok a → each_from f k (ps ++ p ∷ []) ≡ Ok (all ++ a ∷ [])
each_more {A} f k [] p all a e h =
    let none : all ≡ [] = cc in
    let here : f k p ≡ Ok a = subst (λ n. f n p ≡ Ok a) (omega arith) h in
    each_after f k p [] a here ∙ ap (λ (l : List A). Ok (l ++ a ∷ [])) (sym none)
each_more {A} f k (q ∷ ps) p all a e h =
    let o = first_of f k q ps all e in
    let there : f (k + 1 + length ps) p ≡ Ok a = subst (λ n. f n p ≡ Ok a) (omega arith) h in
    let rest : each_from f (k + 1) (ps ++ p ∷ []) ≡ Ok (o.others ++ a ∷ []) = each_more f (k + 1) ps p o.others a o.were there in
    each_after f k q (ps ++ p ∷ []) o.first o.was
    ∙ (ap (map_ok (λ (l : List A). o.first ∷ l)) rest ∙ ap (λ (l : List A). Ok (l ++ a ∷ [])) o.is)

pub each_stops : {A : Type 0} (f : ℕ → Passed → Result A Why) (k : ℕ) (ps : List Passed) (p : Passed) (qs : List Passed) (all : List A) (w : Why)
    → each_from f k ps ≡ Ok all → f (k + length ps) p ≡ Err w
    → each_from f k (ps ++ p ∷ qs) ≡ Err (record { param = Arg (k + length ps); why = w })
each_stops {A} f k [] p qs all w e h =
    let same : k + length {A = Passed} [] ≡ k = omega arith in
    let here : f k p ≡ Err w = subst (λ n. f n p ≡ Err w) same h in
    ap (λ (r : Result A Why). and_then (λ (b : A). map_ok (λ (rest : List A). b ∷ rest) (each_from f (k + 1) qs)) (refused_at (Arg k) r)) here
    ∙ ap (λ n. Err (record { param = Arg n; why = w })) (sym same)
each_stops {A} f k (q ∷ ps) p qs all w e h =
    let o = first_of f k q ps all e in
    let same : k + length (q ∷ ps) ≡ k + 1 + length ps = omega arith in
    let there : f (k + 1 + length ps) p ≡ Err w = subst (λ n. f n p ≡ Err w) same h in
    let rest : each_from f (k + 1) (ps ++ p ∷ qs) ≡ Err (record { param = Arg (k + 1 + length ps); why = w }) = each_stops f (k + 1) ps p qs o.others w o.were there in
    each_after f k q (ps ++ p ∷ qs) o.first o.was
    ∙ (ap (map_ok (λ (l : List A). o.first ∷ l)) rest ∙ ap (λ n. Err (record { param = Arg n; why = w })) (sym same))

-- the same where parameters are taken from a list
taken_length : (ps : List Passed) (i : ℕ) → i < length ps → 0 + length (take i ps) ≡ i
taken_length ps i within = omega (arith, length-take i ps)

pub step_taken : {A : Type 0} (f : ℕ → Passed → Result A Why) (ps : List Passed) (i : ℕ) (d : Passed) (all : List A) (a : A)
    → i < length ps → each_from f 0 (take i ps) ≡ Ok all → f i (get_or ps i d) ≡ Ok a
    → each_from f 0 (take (i + 1) ps) ≡ Ok (all ++ a ∷ [])
step_taken {A} f ps i d all a within e h =
    let p : Passed = get_or ps i d in
    let there : f (0 + length (take i ps)) p ≡ Ok a = subst (λ n. f n p ≡ Ok a) (sym (taken_length ps i within)) h in
    ap (each_from f 0) (take_more ps i d within) ∙ each_more f 0 (take i ps) p all a e there

pub step_stopped : {A : Type 0} (f : ℕ → Passed → Result A Why) (ps : List Passed) (i : ℕ) (d : Passed) (all : List A) (w : Why)
    → i < length ps → each_from f 0 (take i ps) ≡ Ok all → f i (get_or ps i d) ≡ Err w
    → each_from f 0 ps ≡ Err (record { param = Arg i; why = w })
step_stopped {A} f ps i d all w within e h =
    let p : Passed = get_or ps i d in
    let there : f (0 + length (take i ps)) p ≡ Err w = subst (λ n. f n p ≡ Err w) (sym (taken_length ps i within)) h in
    let whole : ps ≡ take i ps ++ p ∷ drop (i + 1) ps =
    sym (take-append-drop i ps) ∙ ap (λ (l : List Passed). take i ps ++ l) (drop_more ps i d within) in
    ap (each_from f 0) whole
    ∙ (each_stops f 0 (take i ps) p (drop (i + 1) ps) all w e there
    ∙ ap (λ n. Err (record { param = Arg n; why = w })) (taken_length ps i within))

-- a step that was answered stops the whole with its reason, or for want of memory
pub step_fails : {A : Type 0} (f : ℕ → Passed → Result A Why) (ps : List Passed) (i : ℕ) (d : Passed) (all : List A) (bad : StubBad)
    → i < length ps → each_from f 0 (take i ps) ≡ Ok all → IsStep {A = A} (Arg i) (Err bad) (f i (get_or ps i d))
    → IsReturned {A = List A} (Err bad) (each_from f 0 ps)
step_fails f ps i d all Memory within e h = tt
step_fails f ps i d all (Outside p w) within e h =
    step_stopped f ps i d all w within e h.1 ∙ ap (λ q. Err (record { param = q; why = w })) (sym h.0)
