-- Offsets that instructions lead to.
use Rattle.std.proofs.Common.{◌≡◌, ℕ, zero, suc, ◌+◌, ◌≤◌, false, List, length, Some, Result, Ok, refl, inl, inr, subst, arith, eq-eqb}
use Rattle.std.specs.Prelude.{◌==◌}
use Rattle.std.specs.Option.{ok_or}
use Rattle.std.proofs.lemmas.Bool.{cases_lt, cases_Bool, eqb-true, eqb-false, ne_eqb}
use Rattle.byte_view.proofs.Reading.{bind_ok, ok_or_ok}
use Rattle.body_reader.specs.Instructions.{next_at}
use Rattle.body_reader.specs.Code.{first_from, first_after}
use Rattle.body_reader.specs.Laws.{Reached, first, after}
use Rattle.body_reader.proofs.Operands.{next_range}
use Rattle.body_reader.proofs.Starts.{first_none, first_steps}

step_reached : (code : List ℕ) (k before next : ℕ) → Reached code before → k ≤ before → before ≤ length code → first_after code k before ≡ Ok next → Reached code next × (suc k ≤ next) × (next ≤ length code)
step_reached code k before next r from within e =
    elim (cases_Bool (before == k)) [
      | inl here ↦ (
          let same : before ≡ k = eqb-true before k here in
          let there : ok_or (next_at code k) k ≡ Ok next = rw here at e in
          let is : next_at code k ≡ Some next = ok_or_ok (next_at code k) k next there in
          let range = next_range code k next is in
          let here : Reached code k = subst (Reached code) same r in
          (after k next here is, omega (arith, range.0), range.1))
      | inr differs ↦ (
          let kept : ◌≡◌ {A = Result ℕ ℕ} (Ok before) (Ok next) = rw differs at e in
          let same : before ≡ next = cc in
          let other = eqb-false before k differs in
          (subst (Reached code) same r, (let apart : before ≡ k → ⊥ = other in omega (arith, same, from, apart)), omega (arith, same, within)))
    ]

-- the first instruction from an offset on is reached
pub first_reached : (code : List ℕ) (k next : ℕ) → first_from code k ≡ Ok next → Reached code next × (k ≤ next) × (next ≤ length code)
unfolding first_from
first_reached code zero next e = let same : 0 ≡ next = cc in (subst (Reached code) same first, omega arith, omega (arith, same))
first_reached code (suc k) next e =
    let parts = bind_ok (first_from code k) (first_after code k) next e in
    let before = first_reached code k parts.0 parts.1 in
    step_reached code k parts.0 next before.0 before.1 before.2 parts.2

stays : (code : List ℕ) (m k next : ℕ) → first_from code m ≡ Ok next → m ≤ k → k ≤ next → first_from code k ≡ Ok next
unfolding first_from
stays code m zero next e h g = let same : m ≡ 0 = omega arith in rw same at e
stays code m (suc k) next e h g =
    elim (cases_lt k m) [
      | inl l ↦ (let same : m ≡ suc k = omega arith in rw same at e)
      | inr b ↦ (
          let other : (next == k) ≡ false = ne_eqb next k (λ s. omega (arith, s, g)) in
          rw (stays code m k next e b (omega arith), other) refl)
    ]

-- an offset that is reached is the first from itself on
pub reached_first : (code : List ℕ) (at : ℕ) → Reached code at → first_from code at ≡ Ok at
reached_first code at first = first_none code
reached_first code at (after before next r e) =
    let range = next_range code before next e in
    let step : first_from code (before + 1) ≡ Ok next = first_steps code before before next (reached_first code before r) (eq-eqb before before refl) e in
    stays code (before + 1) next next step (omega (arith, range.0)) (omega arith)
