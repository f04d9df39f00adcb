-- Where instructions end.
use Rattle.std.proofs.Common.{◌≡◌, ℕ, ◌+◌, ◌*◌, ◌<◌, ◌≤◌, Bool, true, false, List, length, Some, None, refl, ap, inl, inr, arith}
use Rattle.std.specs.Prelude.{◌==◌, nat_le, slice_get, option_map, option_and_then, if◌then◌else◌}
use Rattle.std.proofs.lemmas.Bool.{cases_Bool, leb-true}
use Rattle.std.proofs.lemmas.Option.{slice_get_within}
use Rattle.byte_view.specs.Numbers.{le, number_at}
use Rattle.body_reader.specs.Opcodes.{Form, bare, number, branch, switch, one_byte, two_bytes, prefix, form_among}
use Rattle.body_reader.specs.Instructions.{form_after, form_at, end_of, operand_end, next_at}
use Rattle.body_reader.proofs.Options.{then_some, map_some, some_if}

after_range : (code : List ℕ) (at byte : ℕ) (f : Form × ℕ) → at < length code → form_after code at byte ≡ Some f → (at < f.1) × (f.1 ≤ length code)
after_range code at byte f h e =
    elim (cases_Bool (byte == prefix)) [
      | inl here ↦ (
          let long : option_map (λ form. (form, at + 2)) (option_and_then (form_among two_bytes) (slice_get code (at + 1))) ≡ Some f = rw here at e in
          let parts = map_some (λ form. (form, at + 2)) (option_and_then (form_among two_bytes) (slice_get code (at + 1))) f long in
          let inner = then_some (form_among two_bytes) (slice_get code (at + 1)) parts.0 parts.1 in
          let place : at + 2 ≡ f.1 = ap (λ (p : Form × ℕ). p.1) parts.2 in
          let second : at + 1 < length code = slice_get_within code (at + 1) inner.0 inner.1 in
          (omega (arith, place), omega (arith, place, second)))
      | inr differs ↦ (
          let short : option_map (λ form. (form, at + 1)) (form_among one_byte byte) ≡ Some f = rw differs at e in
          let parts = map_some (λ form. (form, at + 1)) (form_among one_byte byte) f short in
          let place : at + 1 ≡ f.1 = ap (λ (p : Form × ℕ). p.1) parts.2 in
          (omega (arith, place), omega (arith, place, h)))
    ]

pub form_range : (code : List ℕ) (at : ℕ) (f : Form × ℕ) → form_at code at ≡ Some f → (at < f.1) × (f.1 ≤ length code)
unfolding form_at
form_range code at f e =
    let parts = then_some (form_after code at) (slice_get code at) f e in
    after_range code at parts.0 f (slice_get_within code at parts.0 parts.1) parts.2

end_range : (code : List ℕ) (at size next : ℕ) → end_of code at size ≡ Some next → (at + size ≡ next) × (next ≤ length code)
end_range code at size next e =
    let parts = some_if (nat_le (at + size) (length code)) (at + size) next e in
    let within : at + size ≤ length code = leb-true (at + size) (length code) parts.0 in
    (parts.1, omega (arith, parts.1, within))

pub operand_range : (code : List ℕ) (form : Form) (at next : ℕ) → at ≤ length code → operand_end code form at ≡ Some next → (at ≤ next) × (next ≤ length code)
unfolding operand_end
operand_range code (bare op) at next h e = let same : at ≡ next = cc in (omega (arith, same), omega (arith, same, h))
operand_range code (number size make) at next h e = let r = end_range code at size next e in (omega (arith, r.0), r.1)
operand_range code (branch size make) at next h e = let r = end_range code at size next e in (omega (arith, r.0), r.1)
operand_range code switch at next h e =
    let parts = then_some (λ count. end_of code at (4 + 4 * count)) (number_at code at 4) next e in
    let r = end_range code at (4 + 4 * parts.0) next parts.2 in (omega (arith, r.0), r.1)

-- an instruction ends behind its begin, in the code
pub next_range : (code : List ℕ) (at next : ℕ) → next_at code at ≡ Some next → (at < next) × (next ≤ length code)
unfolding next_at
next_range code at next e =
    let parts = then_some (λ (f : Form × ℕ). operand_end code f.0 f.1) (form_at code at) next e in
    let form = form_range code at parts.0 parts.1 in
    let operand = operand_range code parts.0.0 parts.0.1 next form.1 parts.2 in
    (omega (arith, form.0, operand.0), operand.1)

-- the operand of a switch is the number of its targets and a distance for each
pub switch_size : (code : List ℕ) (at next : ℕ) → operand_end code switch at ≡ Some next → at + 4 + 4 * le code at 4 ≡ next
unfolding operand_end
switch_size code at next e =
    let parts = then_some (λ count. end_of code at (4 + 4 * count)) (number_at code at 4) next e in
    let count = some_if (nat_le (at + 4) (length code)) (le code at 4) parts.0 parts.1 in
    let ends = end_range code at (4 + 4 * parts.0) next parts.2 in
    omega (arith, count.1, ends.0)
