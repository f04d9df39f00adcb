-- An error that refuses a step refuses all that is made of it: for readers whose errors say the definition's refusals.
use Rattle.std.proofs.Common.{◌≡◌, ℕ, zero, suc, ◌+◌, ◌<◌, ◌≤◌, List, Option, Some, None, Result, Ok, Err, ◌∙◌, add-one, inl, inr, arith}
use Rattle.std.proofs.lemmas.Bool.{cases_lt}
use Rattle.byte_view.specs.Reading.{◌>>=◌, each, listed, RefusedBy, Refuses}
use Rattle.byte_view.proofs.Reading.{bind_err, bind_read, each_fails, listed_fails}

goes_on : {A B R : Type 0} (said : Option R) (r : Result A R) (whole : Result B R)
    → ((d : R) → r ≡ Err d → whole ≡ Err d) → RefusedBy said r → RefusedBy said whole
goes_on (Some d) r whole fails h = fails d h
goes_on None r whole fails h = tt

-- what refuses one reading refuses each that fails with it
pub refuses_as : {A B E R : Type 0} (says : E → Option R) (e : E) (r : Result A R) (whole : Result B R)
    → ((d : R) → r ≡ Err d → whole ≡ Err d) → Refuses says e r → Refuses says e whole
refuses_as says e r whole fails h = goes_on (says e) r whole fails h

pub each_refused : {E R : Type 0} (says : E → Option R) (e : E) (step : ℕ → Result ℕ R) (k m y : ℕ)
    → each step k ≡ Ok y → k < m → Refuses says e (step k) → Refuses says e (each step m)
each_refused says e step k m y before h =
    refuses_as says e (step k) (each step m) (λ d f. each_fails step k m y d before f h)

pub listed_refused : {A E R : Type 0} (says : E → Option R) (e : E) (step : ℕ → Result A R) (k m : ℕ) (xs : List A)
    → listed step k ≡ Ok xs → k < m → Refuses says e (step k) → Refuses says e (listed step m)
listed_refused says e step k m xs before h =
    refuses_as says e (step k) (listed step m) (λ d f. listed_fails step k m xs d before f h)

-- A reading that goes on step by step: F n is what n steps come to, and G n the step after them.
module _ {A R : Type 0} (F : ℕ → Result A R) (G : ℕ → A → Result A R) (next : (n : ℕ) → F (suc n) ≡ (F n >>= G n)) where
  -- where it failed it fails at each later step
  pub chain_failed : (n m : ℕ) (d : R) → F n ≡ Err d → n ≤ m → F m ≡ Err d
  chain_failed n zero d e h = let same : n ≡ zero = omega arith in rw same at e
  chain_failed n (suc m) d e h =
      elim (cases_lt m n) [
        | inl l ↦ (let same : n ≡ suc m = omega arith in rw same at e)
        | inr g ↦ next m ∙ bind_err (F m) (G m) d (chain_failed n m d e g)
      ]

  -- the next step
  pub chain_more : (n : ℕ) (x y : A) → F n ≡ Ok x → G n x ≡ Ok y → F (n + 1) ≡ Ok y
  chain_more n x y before e = rw add-one (next n ∙ bind_read (F n) (G n) x before ∙ e)
