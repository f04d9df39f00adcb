-- The search for the first clause that takes an exception.
use Rattle.std.proofs.Common.{◌≡◌, ℕ, zero, suc, ◌+◌, ◌<◌, ◌≤◌, Bool, true, false, List, [], ◌∷◌, length, drop, get_or, Option, Some, None, refl, sym, ap, ◌∙◌, inl, inr, add-one, arith, drop-cons, if◌then◌else◌}
use Rattle.std.specs.Prelude.{slice_get, IfSome}
use Rattle.std.proofs.lemmas.Bool.{cases_lt, cases_Bool}
use Rattle.std.proofs.lemmas.Option.{slice_get_within, slice_get_past, get_or_from_slice_get}
use Rattle.body_reader.specs.declared.clause.Clause.{Clause}
use Rattle.body_reader.specs.declared.clause.ClauseKind.{ClauseKind}
use Rattle.body_reader.specs.declared.clause.ClauseKind.TheVariants as kinds
use Rattle.cil_unwind.specs.declared.handlers.Handler.{Handler}
use Rattle.cil_unwind.specs.declared.handlers.Handler.TheVariants.{Catch, Finally, Fault, Nothing}
use Rattle.cil_unwind.specs.Handlers.{is_handler, handler, first_handler, handler_of, IsFirst, NonePasses, TellsFirst, HandlersAreFirst, SearchesGoForward, number_of}

-- the search at a clause that is there
pub handler_step : (matches : ℕ → Bool) (clauses : List Clause) (at k : ℕ) (clause : Clause) → slice_get clauses k ≡ Some clause → handler_of matches clauses at k ≡ (if is_handler matches at clause then handler clause.kind k else handler_of matches clauses at (k + 1))
unfolding handler_of
handler_step matches clauses at k clause e =
    let h : k < length clauses = slice_get_within clauses k clause e in
    let here : get_or clauses k clause ≡ clause = get_or_from_slice_get clauses k clause clause e in
    rw (drop-cons clauses k clause, here, add-one) refl

-- the search goes on after a clause that doesn't take the exception
pub handler_passes : (matches : ℕ → Bool) (clauses : List Clause) (at k : ℕ) (clause : Clause) → slice_get clauses k ≡ Some clause → is_handler matches at clause ≡ false → handler_of matches clauses at k ≡ handler_of matches clauses at (k + 1)
handler_passes matches clauses at k clause e other = handler_step matches clauses at k clause e ∙ rw other refl

-- the search ends at a clause that takes it
pub handler_found : (matches : ℕ → Bool) (clauses : List Clause) (at k : ℕ) (clause : Clause) → slice_get clauses k ≡ Some clause → is_handler matches at clause ≡ true → handler_of matches clauses at k ≡ handler clause.kind k
handler_found matches clauses at k clause e takes_it = handler_step matches clauses at k clause e ∙ rw takes_it refl

drop_past : (xs : List Clause) (k : ℕ) → length xs ≤ k → drop k xs ≡ []
drop_past [] zero h = refl
drop_past [] (suc k) h = refl
drop_past (x ∷ xs) zero h = absurd (omega arith)
drop_past (x ∷ xs) (suc k) h = drop_past xs k (omega arith)

-- nothing is found past the last clause
pub handler_past : (matches : ℕ → Bool) (clauses : List Clause) (at k : ℕ) → length clauses ≤ k → handler_of matches clauses at k ≡ Nothing
unfolding handler_of
handler_past matches clauses at k h = rw (drop_past clauses k h) refl

-- the element that a list begins with after some were dropped
at_drop : (xs : List Clause) (k : ℕ) (x : Clause) (rest : List Clause) → drop k xs ≡ x ∷ rest → (slice_get xs k ≡ Some x) × (drop (suc k) xs ≡ rest)
at_drop [] zero x rest e = absurd (cc)
at_drop [] (suc k) x rest e = absurd (cc)
at_drop (y ∷ ys) zero x rest e = (cc, cc)
at_drop (y ∷ ys) (suc k) x rest e = at_drop ys k x rest e

none_left : (xs : List Clause) (k j : ℕ) → drop k xs ≡ [] → k ≤ j → slice_get xs j ≡ None
none_left [] k j e h = refl
none_left (x ∷ xs) zero j e h = absurd (cc)
none_left (x ∷ xs) (suc k) zero e h = absurd (omega arith)
none_left (x ∷ xs) (suc k) (suc j) e h = none_left xs k j e (omega arith)

tells : (is_one : Clause → Bool) (clauses : List Clause) (from k : ℕ) (clause : Clause) (kind : ClauseKind) → clause.kind ≡ kind → IsFirst is_one clauses from k clause → TellsFirst is_one clauses from (handler kind k)
tells is_one clauses from k clause (kinds.Catch token) same is = (clause, is, (token, same))
tells is_one clauses from k clause kinds.Finally same is = (clause, is, same)
tells is_one clauses from k clause kinds.Fault same is = (clause, is, same)

-- no clause from one number up to another passes
abbrev NoneBetween : (Clause → Bool) → List Clause → ℕ → ℕ → Type 0
NoneBetween is_one clauses from to = (j : ℕ) → from ≤ j → j < to → IfSome (slice_get clauses j) (λ other. is_one other ≡ false)

one_more : (is_one : Clause → Bool) (clauses : List Clause) (from k : ℕ) (clause : Clause) → slice_get clauses k ≡ Some clause → is_one clause ≡ false → NoneBetween is_one clauses from k → NoneBetween is_one clauses from (suc k)
one_more is_one clauses from k clause here other before j a b =
    elim (cases_lt j k) [
      | inl l ↦ before j a l
      | inr g ↦ (let same : j ≡ k = omega arith in rw (same, here) other)
    ]

first_tells : (is_one : Clause → Bool) (clauses : List Clause) (from k : ℕ) (rest : List Clause) → from ≤ k → NoneBetween is_one clauses from k → drop k clauses ≡ rest → TellsFirst is_one clauses from (first_handler is_one k rest)
first_tells is_one clauses from k [] le before e = λ j a.
    elim (cases_lt j k) [
      | inl l ↦ before j a l
      | inr g ↦ rw (none_left clauses k j e g) tt
    ]
first_tells is_one clauses from k (clause ∷ rest) le before e =
    let here = at_drop clauses k clause rest e in
    elim (cases_Bool (is_one clause)) [
      | inl found ↦ rw found (tells is_one clauses from k clause clause.kind refl (record { from_there = le; there = here.0; passes = found; others = before }))
      | inr other ↦ rw (other, add-one) (first_tells is_one clauses from (suc k) rest (omega arith) (one_more is_one clauses from k clause here.0 other before) here.1)
    ]

pub handlers_first : HandlersAreFirst
unfolding handler_of
handlers_first matches clauses at from =
    first_tells (is_handler matches at) clauses from from (drop from clauses) (omega arith) (λ j a b. absurd (omega arith)) refl

forward : (is_one : Clause → Bool) (clauses : List Clause) (from : ℕ) (answer : Handler) → TellsFirst is_one clauses from answer → IfSome (number_of answer) (λ k. from ≤ k)
forward is_one clauses from (Catch k) t = t.1.from_there
forward is_one clauses from (Finally k) t = t.1.from_there
forward is_one clauses from (Fault k) t = t.1.from_there
forward is_one clauses from Nothing t = tt

pub searches_forward : SearchesGoForward
searches_forward matches clauses at from =
    forward (is_handler matches at) clauses from (handler_of matches clauses at from) (handlers_first matches clauses at from)
