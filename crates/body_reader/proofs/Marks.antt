-- The marks of instructions.
use Rattle.std.proofs.Common.{◌≡◌, ℕ, ◌<◌, Bool, true, false, List, length, get_or, Result, Ok, Err, ap, ◌∙◌, inl, inr, arith}
use Rattle.std.specs.Prelude.{◌&&◌, nat_lt}
use Rattle.std.proofs.lemmas.Bool.{cases_lt, lt-ltb, le-ltb, ltb-true, eqb-true, and_parts}
use Rattle.std.proofs.lemmas.List.{get_or_past}
use Rattle.std.proofs.lemmas.List.FromFn.{get_or-map-range_with_len, length-map-range_with_len}
use Rattle.std.proofs.lemmas.Option.{unwrap_or-slice_get}
use Rattle.byte_view.proofs.Reading.{bind_ok}
use Rattle.body_reader.specs.Code.{first_from, is_first, is_start, is_marked, marks, starts_of}

-- code that was read whole: its marks
pub starts_are : (code : List ℕ) (starts : List Bool) → starts_of code ≡ Ok starts → (first : ℕ) × (first_from code (length code) ≡ Ok first) × (marks code (length code) ≡ starts)
unfolding starts_of
starts_are code starts e =
    let parts = bind_ok (first_from code (length code)) (λ _. Ok (marks code (length code))) starts e in
    (parts.0, parts.1, cc)

pub length_starts : (code : List ℕ) (starts : List Bool) → starts_of code ≡ Ok starts → length starts ≡ length code
length_starts code starts e =
    rw (← (starts_are code starts e).2) (length-map-range_with_len (λ at. is_first at (first_from code at)) 0 (length code))

mark_at : (code : List ℕ) (n at : ℕ) → get_or (marks code n) at false ≡ (nat_lt at n && is_first at (first_from code at))
mark_at code n at =
    elim (cases_lt at n) [
      | inl l ↦ rw (lt-ltb at n l) (get_or-map-range_with_len (λ k. is_first k (first_from code k)) 0 n at at false l (omega arith))
      | inr g ↦ rw (le-ltb at n g) (get_or_past (marks code n) at false (rw (length-map-range_with_len (λ k. is_first k (first_from code k)) 0 n) g))
    ]

-- an offset is marked exactly where an instruction begins
pub marked_start : (code : List ℕ) (starts : List Bool) (at : ℕ) → starts_of code ≡ Ok starts → is_marked starts at ≡ is_start code at
unfolding is_start
marked_start code starts at e =
    rw (← (starts_are code starts e).2) (unwrap_or-slice_get (marks code (length code)) at false ∙ mark_at code (length code) at)

first_is : (at : ℕ) (r : Result ℕ ℕ) → is_first at r ≡ true → r ≡ Ok at
first_is at (Ok first) e = ap Ok (eqb-true first at e)
first_is at (Err d) e = absurd (cc)

-- what is known of an offset at which an instruction begins
pub start_is : (code : List ℕ) (at : ℕ) → is_start code at ≡ true → (at < length code) × (first_from code at ≡ Ok at)
unfolding is_start
start_is code at e =
    let parts = and_parts (nat_lt at (length code)) (is_first at (first_from code at)) e in
    (ltb-true at (length code) parts.0, first_is at (first_from code at) parts.1)
