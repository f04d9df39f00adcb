-- Searches through a run of rows, row after row.
use Rattle.std.proofs.Common.{◌≡◌, ℕ, suc, ◌+◌, ◌-◌, ◌<◌, ◌≤◌, Bool, true, false, cond, ◌∷◌, Some, None, ap, ◌∙◌, arith}
use Rattle.std.specs.Prelude.{find}
use Rattle.std.specs.List.{range_with_len}

module _ (test : ℕ → Bool) (at end : ℕ) where
  opens : at < end → range_with_len at (end - at) ≡ at ∷ range_with_len (at + 1) (end - (at + 1))
  opens more =
      let next : end - at ≡ suc (end - (at + 1)) = omega arith in
      ap (range_with_len at) next

  step : at < end → find test (range_with_len at (end - at)) ≡ cond (test at) (Some at) (find test (range_with_len (at + 1) (end - (at + 1))))
  step more = ap (find test) (opens more)

  -- the row at which the search stands has passed the test
  pub found_here : at < end → test at ≡ true → find test (range_with_len at (end - at)) ≡ Some at
  found_here more is = step more ∙ ap (λ (b : Bool). cond b (Some at) (find test (range_with_len (at + 1) (end - (at + 1))))) is

  -- or it goes on at the next one
  pub goes_on : at < end → test at ≡ false → find test (range_with_len at (end - at)) ≡ find test (range_with_len (at + 1) (end - (at + 1)))
  goes_on more is = step more ∙ ap (λ (b : Bool). cond b (Some at) (find test (range_with_len (at + 1) (end - (at + 1))))) is

  pub found_nowhere : end ≤ at → find test (range_with_len at (end - at)) ≡ None
  found_nowhere past =
      let none : end - at ≡ 0 = omega arith in
      ap (λ (n : ℕ). find test (range_with_len at n)) none
