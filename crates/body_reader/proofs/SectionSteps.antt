-- Sections, one after another.
use Rattle.std.proofs.Common.{◌≡◌, ℕ, zero, suc, ◌+◌, ◌-◌, ◌<◌, ◌≤◌, Bool, true, false, List, [], ◌++◌, Option, Some, None, Result, Ok, Err, refl, append_assoc, arith}
use Rattle.byte_view.specs.Reading.{◌>>=◌, RefusedBy}
use Rattle.body_reader.specs.declared.clause.Clause.{Clause}
use Rattle.body_reader.specs.Clauses.{Section, section_at, clauses_at, sections_from}

-- clauses that were read, and those that are read after them
abbrev pub joined : List Clause → Result (List Clause) ℕ → Result (List Clause) ℕ
joined before r = r >>= λ others. Ok (before ++ others)

pub joined_none : (r : Result (List Clause) ℕ) → joined [] r ≡ r
joined_none (Ok xs) = refl
joined_none (Err at) = refl

joined_more : (before more : List Clause) (r : Result (List Clause) ℕ) → joined before (joined more r) ≡ joined (before ++ more) r
joined_more before more (Ok xs) = rw append_assoc refl
joined_more before more (Err at) = refl

-- a section that is refused
pub header_refused : (says : Option ℕ) (most n : ℕ) (bytes : List ℕ) (starts : List Bool) (at : ℕ) (before : List Clause) → suc most ≡ n → RefusedBy says (section_at bytes at) → RefusedBy says (joined before (sections_from n bytes starts at))
unfolding sections_from
header_refused None most n bytes starts at before same refused = refused
header_refused (Some place) most n bytes starts at before same refused = rw (← same, refused) refl

-- a clause that is refused
pub clauses_refused : (says : Option ℕ) (most n : ℕ) (bytes : List ℕ) (starts : List Bool) (at : ℕ) (before : List Clause) (section : Section) → suc most ≡ n → section_at bytes at ≡ Ok section → RefusedBy says (clauses_at bytes starts at section) → RefusedBy says (joined before (sections_from n bytes starts at))
unfolding sections_from
clauses_refused None most n bytes starts at before section same read refused = refused
clauses_refused (Some place) most n bytes starts at before section same read refused = rw (← same, read, refused) refl

-- the last section
pub section_last : (most n : ℕ) (bytes : List ℕ) (starts : List Bool) (at : ℕ) (before more : List Clause) (section : Section) → suc most ≡ n → section_at bytes at ≡ Ok section → clauses_at bytes starts at section ≡ Ok more → section.is_last ≡ true → joined before (sections_from n bytes starts at) ≡ Ok (before ++ more)
unfolding sections_from
section_last most n bytes starts at before more section same read clauses last = rw (← same, read, clauses, last) refl

-- a section that another follows
pub section_more : (most n : ℕ) (bytes : List ℕ) (starts : List Bool) (at : ℕ) (before more : List Clause) (section : Section) → suc most ≡ n → section_at bytes at ≡ Ok section → clauses_at bytes starts at section ≡ Ok more → section.is_last ≡ false → joined before (sections_from n bytes starts at) ≡ joined (before ++ more) (sections_from most bytes starts (at + section.size))
unfolding sections_from
section_more most n bytes starts at before more section same read clauses last =
    rw (← same, read, clauses, last) (joined_more before more (sections_from most bytes starts (at + section.size)))

-- no section is left to be read
pub sections_over : (n : ℕ) (bytes : List ℕ) (starts : List Bool) (at : ℕ) (before : List Clause) → n ≤ 0 → joined before (sections_from n bytes starts at) ≡ Err at
unfolding sections_from
sections_over zero bytes starts at before h = refl
sections_over (suc n) bytes starts at before h = absurd (omega arith)

pub one_before : (n : ℕ) → 0 < n → suc (n - 1) ≡ n
one_before zero h = absurd (omega arith)
one_before (suc n) h = omega arith
