-- Which clause of a method takes an exception, or must run before it goes on (ECMA-335 I.12.4.2.5,
-- II.19): the first from a number on whose protected block covers the offset, and which catches the
-- exception, or is a finally or fault clause. Clauses are numbered from 0, in their order in the file.
use Rattle.std.specs.Prelude.{◌≡◌, ℕ, ◌+◌, ◌<◌, ◌≤◌, ◌^◌, Bool, true, false, ◌&&◌, nat_lt, nat_le, List, [], ◌∷◌, drop, slice_get, Option, Some, None, IfSome, if◌then◌else◌}
use Rattle.body_reader.specs.declared.clause.Clause.{Clause}
use Rattle.body_reader.specs.declared.clause.ClauseKind.{ClauseKind}
use Rattle.body_reader.specs.declared.clause.ClauseKind.TheVariants as kinds
use Rattle.cil_unwind.specs.declared.handlers.Handler.{Handler}
use Rattle.cil_unwind.specs.declared.handlers.Handler.TheVariants.{Catch, Finally, Fault, Nothing}

-- the protected block has the instruction at an offset
abbrev pub covers : ℕ → Clause → Bool
covers at clause = nat_le clause.try_at at && nat_lt at clause.try_end

-- a clause of a kind takes an exception, where `matches` tells which tokens of types catch it
abbrev pub takes : (ℕ → Bool) → ClauseKind → Bool
takes matches (kinds.Catch token) = matches token
takes matches kinds.Finally = true
takes matches kinds.Fault = true

abbrev pub is_handler : (ℕ → Bool) → ℕ → Clause → Bool
is_handler matches at clause = covers at clause && takes matches clause.kind

-- the clause of a kind with a number, as an answer
abbrev pub handler : ClauseKind → ℕ → Handler
handler (kinds.Catch token) k = Catch k
handler kinds.Finally k = Finally k
handler kinds.Fault k = Fault k

-- the first of some clauses that takes the exception, the first of them having the number k
abbrev pub first_handler : (Clause → Bool) → ℕ → List Clause → Handler
first_handler is_one k [] = Nothing
first_handler is_one k (clause ∷ clauses) =
    if is_one clause then handler clause.kind k else first_handler is_one (k + 1) clauses

-- the first that takes it, from the number `from` on
unfoldable pub handler_of : (ℕ → Bool) → List Clause → ℕ → ℕ → Handler
handler_of matches clauses at from = first_handler (is_handler matches at) from (drop from clauses)

-- a clause's number is the first, from `from` on, of those that pass a test
pub record IsFirst (is_one : Clause → Bool) (clauses : List Clause) (from k : ℕ) (found : Clause) : Type 0 where
  pub from_there : from ≤ k
  pub there : slice_get clauses k ≡ Some found
  pub passes : is_one found ≡ true
  pub others : (j : ℕ) → from ≤ j → j < k → IfSome (slice_get clauses j) (λ other. is_one other ≡ false)

-- none from `from` on passes it
abbrev pub NonePasses : (Clause → Bool) → List Clause → ℕ → Type 0
NonePasses is_one clauses from =
    (j : ℕ) → from ≤ j → IfSome (slice_get clauses j) (λ other. is_one other ≡ false)

-- an answer tells the first clause that passes a test, by its number and kind, or that there is none
abbrev pub TellsFirst : (Clause → Bool) → List Clause → ℕ → Handler → Type 0
TellsFirst is_one clauses from (Catch k) =
    (clause : Clause) × IsFirst is_one clauses from k clause × ((token : ℕ) × (clause.kind ≡ kinds.Catch token))
TellsFirst is_one clauses from (Finally k) =
    (clause : Clause) × IsFirst is_one clauses from k clause × (clause.kind ≡ kinds.Finally)
TellsFirst is_one clauses from (Fault k) =
    (clause : Clause) × IsFirst is_one clauses from k clause × (clause.kind ≡ kinds.Fault)
TellsFirst is_one clauses from Nothing = NonePasses is_one clauses from

-- Whatever matches, the answer tells the first clause that takes the exception.
abbrev pub HandlersAreFirst : Type 0
HandlersAreFirst =
    (matches : ℕ → Bool) (clauses : List Clause) (at from : ℕ) →
    TellsFirst (is_handler matches at) clauses from (handler_of matches clauses at from)

-- A search that goes on after the clause with a number never comes back to it or to one before it.
abbrev pub number_of : Handler → Option ℕ
number_of (Catch k) = Some k
number_of (Finally k) = Some k
number_of (Fault k) = Some k
number_of Nothing = None

abbrev pub SearchesGoForward : Type 0
SearchesGoForward =
    (matches : ℕ → Bool) (clauses : List Clause) (at from : ℕ) →
    IfSome (number_of (handler_of matches clauses at from)) (λ k. from ≤ k)

-- answers of a test of tokens are those of a function of numbers, as far as tokens go
abbrev pub Decides : (ℕ → Bool → Type 0) → (ℕ → Bool) → Type 0
Decides answers matches = (token : ℕ) (answer : Bool) → token < 2 ^ 32 → answers token answer → answer ≡ matches token
