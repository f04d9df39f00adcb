-- Instructions of code that was read.
use Rattle.std.proofs.Common.{◌≡◌, ℕ, ◌+◌, ◌<◌, Bool, true, List, length, Option, Some, None, Result, Ok, Err, refl, sym, ap, ◌∙◌, arith, eq-eqb}
use Rattle.std.specs.Prelude.{option_map}
use Rattle.byte_view.specs.Numbers.{le}
use Rattle.byte_view.proofs.Reading.{each_ok, must_ok}
use Rattle.body_reader.specs.declared.op.Op.{Op}
use Rattle.body_reader.specs.Opcodes.{Form, bare, number, branch, switch}
use Rattle.body_reader.specs.Instructions.{form_at, operand_end, next_at, op_of, instruction_at, target_at}
use Rattle.body_reader.specs.Code.{first_from, is_start, is_marked, is_target, starts_of, check_targets, check_at, targets_in}
use Rattle.body_reader.proofs.Options.{then_some}
use Rattle.body_reader.proofs.Marks.{starts_are, marked_start, start_is}
use Rattle.body_reader.proofs.Starts.{first_fails, first_refused}

not_both : {A : Type 0} (r : Result ℕ ℕ) (x d : ℕ) → r ≡ Ok x → r ≡ Err d → A
not_both r x d e f = absurd (cc)

-- a whole instruction stands where one begins
pub whole_at : (code : List ℕ) (starts : List Bool) (at : ℕ) → starts_of code ≡ Ok starts → is_start code at ≡ true → (next : ℕ) × (next_at code at ≡ Some next)
whole_at code starts at e start =
    let read = starts_are code starts e in
    let here = start_is code at start in
    let decided : (o : Option ℕ) → next_at code at ≡ o → (next : ℕ) × (next_at code at ≡ Some next) = λ o.
    elim o as (λ o. next_at code at ≡ o → (next : ℕ) × (next_at code at ≡ Some next)) [
      | Some next ↦ (λ is. (next, is))
      | None ↦ (λ is. not_both (first_from code (length code)) read.0 at read.1 (first_refused code (at + 1) (length code) at (first_fails code at at here.1 (eq-eqb at at refl) is) (omega (arith, here.0))))
    ] in
    decided (next_at code at) refl

-- the form of a whole instruction, and where its operand stands
pub form_of_whole : (code : List ℕ) (at next : ℕ) → next_at code at ≡ Some next → (f : Form × ℕ) × (form_at code at ≡ Some f) × (operand_end code f.0 f.1 ≡ Some next)
unfolding next_at
form_of_whole code at next e = then_some (λ f. operand_end code f.0 f.1) (form_at code at) next e

pub target_there : (starts : List Bool) (t : Option ℕ) → is_target starts t ≡ true → (at : ℕ) × (t ≡ Some at) × (is_marked starts at ≡ true)
target_there starts (Some at) e = (at, refl, e)
target_there starts None e = absurd (cc)

-- an instruction whose targets are instructions is one
pub op_there : (code : List ℕ) (starts : List Bool) (form : Form) (at next z : ℕ) → check_targets code starts form at next ≡ Ok z → (op : Op) × (op_of code form at next ≡ Some op)
unfolding check_targets op_of
op_there code starts (bare op) at next z e = (op, refl)
op_there code starts (number size make) at next z e = (make (le code at size), refl)
op_there code starts (branch size make) at next z e =
    let t = target_there starts (target_at code size next at) (must_ok (is_target starts (target_at code size next at)) at z e) in
    (make t.0, ap (option_map make) t.1)
op_there code starts switch at next z e = (_, refl)

-- the check of the instruction that begins at an offset
pub checked_at : (code : List ℕ) (starts : List Bool) (at next y : ℕ) (f : Form × ℕ) → targets_in code starts ≡ Ok y → is_marked starts at ≡ true → at < length code → form_at code at ≡ Some f → operand_end code f.0 f.1 ≡ Some next → (z : ℕ) × (check_targets code starts f.0 f.1 next ≡ Ok z)
unfolding targets_in
checked_at code starts at next y f e marked h form ends =
    let checked = each_ok (check_at code starts) (length code) y e at h in
    let here : check_at code starts at ≡ check_targets code starts f.0 f.1 next = rw (marked, form, ends) refl in
    (checked.0, sym here ∙ checked.1)

-- where an instruction begins, one can be had
pub instruction_there : (code : List ℕ) (starts : List Bool) (at y : ℕ) → starts_of code ≡ Ok starts → targets_in code starts ≡ Ok y → is_start code at ≡ true → (x : Op × ℕ) × (instruction_at code at ≡ Some x)
unfolding instruction_at
instruction_there code starts at y e targets start =
    let here = start_is code at start in
    let whole = whole_at code starts at e start in
    let form = form_of_whole code at whole.0 whole.1 in
    let checked = checked_at code starts at whole.0 y form.0 targets (marked_start code starts at e ∙ start) here.0 form.1 form.2 in
    let op = op_there code starts form.0.0 form.0.1 whole.0 checked.0 checked.1 in
    ((op.0, whole.0), rw (form.1, form.2, op.1) refl)
