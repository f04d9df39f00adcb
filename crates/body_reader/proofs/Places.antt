-- Readings of code whose places are told from the start of a body.
use Rattle.std.proofs.Common.{◌≡◌, ℕ, ◌+◌, ◌<◌, Bool, true, false, Option, Some, None, Result, Ok, Err, refl, ap, ◌∙◌}
use Rattle.byte_view.specs.Reading.{RefusedBy, must, each}
use Rattle.byte_view.proofs.Reading.{each_fails}
use Rattle.body_reader.specs.Bodies.{from_start}

-- what was read, was read
pub from_start_ok : {A : Type 0} (start : ℕ) (r : Result A ℕ) (x : A) → from_start start r ≡ Ok x → r ≡ Ok x
from_start_ok start (Ok y) x e = e
from_start_ok start (Err d) x e = absurd (cc)

-- what was refused at a place of the body, was refused at a place of the code
pub from_start_err : {A : Type 0} (start : ℕ) (r : Result A ℕ) (at : ℕ) → from_start start r ≡ Err at → (d : ℕ) × (r ≡ Err d) × (start + d ≡ at)
from_start_err start (Ok y) at e = absurd (cc)
from_start_err start (Err d) at e = (d, refl, cc)

-- the first step that is refused, among steps
pub each_refused : (says : Option ℕ) (start : ℕ) (step : ℕ → Result ℕ ℕ) (k m y : ℕ) → each step k ≡ Ok y → k < m → RefusedBy says (from_start start (step k)) → RefusedBy says (from_start start (each step m))
each_refused None start step k m y before h refused = refused
each_refused (Some at) start step k m y before h refused =
    let inside = from_start_err start (step k) at refused in
    let fails = each_fails step k m y inside.0 before inside.1 h in
    rw fails (ap Err inside.2)

-- a test that is refused at a place of the body
pub refused_must : (says : Option ℕ) (start : ℕ) (holds : Bool) (x y : ℕ) → start + x ≡ y → RefusedBy says (must holds y) → RefusedBy says (from_start start (must holds x))
refused_must None start holds x y place refused = refused
refused_must (Some at) start true x y place refused = absurd (cc)
refused_must (Some at) start false x y place refused = ap Err place ∙ refused

-- a test that passed passes at each place
pub passed_must : (holds : Bool) (x y : ℕ) → must holds y ≡ Ok 0 → must holds x ≡ Ok 0
passed_must true x y e = refl
passed_must false x y e = absurd (cc)
