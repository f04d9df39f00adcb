-- Steps that are taken one after another: how far they have come.
use Rattle.std.proofs.Common.{◌≡◌, ℕ, zero, suc, ◌+◌, ◌≤◌, List, [], ◌∷◌, length, drop, Some, Result, Ok, Err, refl, ◌∙◌, add-one, arith}
use Rattle.std.specs.Prelude.{slice_get}
use Rattle.byte_view.specs.Reading.{steps}

-- after the steps of the first k elements, those of the rest are still to be taken
pub record Came {S A R : Type 0} (step : S → A → Result S R) (first : S) (all : List A) (now : S) (k : ℕ) : Type 0 where
  pub left : steps step first all ≡ steps step now (drop k all)

pub none_yet : {S A R : Type 0} (step : S → A → Result S R) (first : S) (all : List A) → Came step first all first 0
none_yet step first all = record { left = refl }

pub next_is : {A : Type 0} (all : List A) (k : ℕ) (x : A) → slice_get all k ≡ Some x → drop k all ≡ x ∷ drop (suc k) all
next_is [] k x e = absurd (cc)
next_is (y ∷ ys) zero x e = let same : y ≡ x = cc in rw same refl
next_is (y ∷ ys) (suc k) x e = next_is ys k x e

pub one_more : {S A R : Type 0} (step : S → A → Result S R) (first : S) (all : List A) (now : S) (k : ℕ) (x : A) (new : S)
    → Came step first all now k → slice_get all k ≡ Some x → step now x ≡ Ok new → Came step first all new (k + 1)
unfolding steps
one_more step first all now k x new came is went =
    record { left = came.left ∙ rw (next_is all k x is, went, add-one) refl }

pub it_fails : {S A R : Type 0} (step : S → A → Result S R) (first : S) (all : List A) (now : S) (k : ℕ) (x : A) (d : R)
    → Came step first all now k → slice_get all k ≡ Some x → step now x ≡ Err d → steps step first all ≡ Err d
unfolding steps
it_fails step first all now k x d came is failed = came.left ∙ rw (next_is all k x is, failed) refl

pub all_gone : {A : Type 0} (all : List A) (k : ℕ) → length all ≤ k → drop k all ≡ []
all_gone [] zero h = refl
all_gone [] (suc k) h = refl
all_gone (x ∷ xs) zero h = absurd (omega arith)
all_gone (x ∷ xs) (suc k) h = all_gone xs k (omega arith)

pub all_done : {S A R : Type 0} (step : S → A → Result S R) (first : S) (all : List A) (now : S) (k : ℕ)
    → Came step first all now k → length all ≤ k → steps step first all ≡ Ok now
unfolding steps
all_done step first all now k came done = came.left ∙ rw (all_gone all k done) refl
