-- Where instructions begin, offset after offset.
use Rattle.std.proofs.Common.{◌≡◌, ℕ, zero, suc, ◌+◌, ◌<◌, ◌≤◌, true, false, List, length, Option, Some, None, Result, Ok, Err, refl, ap, add-one, arith, inl, inr}
use Rattle.std.specs.Prelude.{◌==◌}
use Rattle.std.proofs.lemmas.Bool.{cases_lt}
use Rattle.byte_view.specs.Reading.{RefusedBy}
use Rattle.body_reader.specs.Instructions.{next_at}
use Rattle.body_reader.specs.Code.{first_from, first_after, starts_of}
use Rattle.body_reader.specs.Bodies.{from_start}
use Rattle.body_reader.proofs.Places.{from_start_err}

pub first_none : (code : List ℕ) → first_from code 0 ≡ Ok 0
unfolding first_from
first_none code = refl

-- no instruction begins at an offset before the next one
pub first_skips : (code : List ℕ) (k first : ℕ) → first_from code k ≡ Ok first → (first == k) ≡ false → first_from code (k + 1) ≡ Ok first
unfolding first_from
first_skips code k first before other = rw (add-one, before, other) refl

-- the next one begins after the instruction at an offset
pub first_steps : (code : List ℕ) (k first next : ℕ) → first_from code k ≡ Ok first → (first == k) ≡ true → next_at code k ≡ Some next → first_from code (k + 1) ≡ Ok next
unfolding first_from
first_steps code k first next before same there = rw (add-one, before, same, there) refl

-- no instruction is at an offset where one should begin
pub first_fails : (code : List ℕ) (k first : ℕ) → first_from code k ≡ Ok first → (first == k) ≡ true → next_at code k ≡ None → first_from code (k + 1) ≡ Err k
unfolding first_from
first_fails code k first before same none = rw (add-one, before, same, none) refl

-- what is refused stays refused
pub first_refused : (code : List ℕ) (n m d : ℕ) → first_from code n ≡ Err d → n ≤ m → first_from code m ≡ Err d
unfolding first_from
first_refused code n zero d e h = let same : n ≡ zero = omega arith in rw same at e
first_refused code n (suc m) d e h =
    elim (cases_lt m n) [
      | inl l ↦ (let same : n ≡ suc m = omega arith in rw same at e)
      | inr g ↦ rw (first_refused code n m d e g) refl
    ]

-- the next one, after an offset
pub first_more : (code : List ℕ) (k first : ℕ) (next : Result ℕ ℕ) → first_from code k ≡ Ok first → first_after code k first ≡ next → first_from code (k + 1) ≡ next
unfolding first_from
first_more code k first next before e = rw (add-one, before) e

-- code is refused where an instruction should begin and none does
pub starts_refused : (says : Option ℕ) (start : ℕ) (code : List ℕ) (k first : ℕ) → first_from code k ≡ Ok first → k < length code → RefusedBy says (from_start start (first_after code k first)) → RefusedBy says (from_start start (starts_of code))
unfolding starts_of
starts_refused None start code k first before h refused = refused
starts_refused (Some at) start code k first before h refused =
    let inside = from_start_err start (first_after code k first) at refused in
    let fails = first_refused code (k + 1) (length code) inside.0 (first_more code k first (Err inside.0) before inside.1) (omega arith) in
    rw fails (ap Err inside.2)
