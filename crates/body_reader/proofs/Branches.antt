-- Branches lead to instructions: the rows of opcodes say which operands are targets.
use Rattle.std.proofs.Common.{◌≡◌, ℕ, ◌+◌, ◌*◌, ◌<◌, ◌≤◌, Bool, true, false, List, [], ◌∷◌, length, get_or, drop, map, Option, Some, None, Ok, refl, sym, ap, ◌∙◌, inl, inr, subst, arith}
use Rattle.std.specs.Prelude.{◌==◌, slice_get, option_map, option_and_then, IfSome, IsTrue}
use Rattle.std.proofs.lemmas.Bool.{cases_Bool, lt-ltb, both_ways}
use Rattle.byte_view.specs.Numbers.{le}
use Rattle.byte_view.specs.Reading.{must}
use Rattle.byte_view.proofs.Reading.{each_ok, must_ok}
use Rattle.body_reader.specs.declared.op.Op.{Op}
use Rattle.body_reader.specs.declared.op.Op.TheVariants.{Switch}
use Rattle.body_reader.specs.Opcodes.{Form, bare, number, branch, switch, one_byte, two_bytes, prefix, form_among}
use Rattle.body_reader.specs.Instructions.{form_after, form_at, operand_end, op_of, instruction_at, target_at, switch_target_at}
use Rattle.body_reader.specs.Code.{is_start, is_marked, is_target, starts_of, check_targets, check_switch}
use Rattle.body_reader.specs.Bodies.{MethodBody, instr_of}
use Rattle.body_reader.specs.Laws.{branch_target, BranchesLeadToInstructions, SwitchesLeadToInstructions}
use Rattle.body_reader.proofs.Options.{then_some, map_some}
use Rattle.body_reader.proofs.Operands.{form_range, operand_range, switch_size}
use Rattle.body_reader.proofs.Marks.{marked_start, start_is}
use Rattle.body_reader.proofs.Whole.{target_there, checked_at}
use Rattle.body_reader.proofs.Bodies.{code_read, instr_is}

is_switch : Op → Bool
is_switch (Switch count at) = true
is_switch _ = false

-- where the instruction of a form goes, by its operand, and whether it is a switch
goes : Form → ℕ → Option ℕ × Bool
goes (bare op) n = (branch_target op, is_switch op)
goes (number size make) n = (branch_target (make n), is_switch (make n))
goes (branch size make) n = (branch_target (make n), is_switch (make n))
goes switch n = (None, true)

-- where it should: a branch to its operand, the others nowhere
should_go : Form → ℕ → Option ℕ × Bool
should_go (bare op) n = (None, false)
should_go (number size make) n = (None, false)
should_go (branch size make) n = (Some n, false)
should_go switch n = (None, true)

-- the rows say this of each form
abbrev RowsAgree : List (ℕ × Form) → Type 0
RowsAgree rows = map (λ row. goes row.1) rows ≡ map (λ row. should_go row.1) rows

one_byte_agrees : RowsAgree one_byte
unfolding one_byte goes should_go is_switch
one_byte_agrees = refl

two_bytes_agree : RowsAgree two_bytes
unfolding two_bytes goes should_go is_switch
two_bytes_agree = refl

row_agrees : (rows : List (ℕ × Form)) (byte : ℕ) (form : Form) → RowsAgree rows → form_among rows byte ≡ Some form → goes form ≡ should_go form
unfolding form_among
row_agrees [] byte form e h = absurd (cc)
row_agrees (row ∷ rows) byte form e h =
    elim (cases_Bool (row.0 == byte)) [
      | inl here ↦ (
          let is : ◌≡◌ {A = Option Form} (Some row.1) (Some form) = rw here at h in
          let same : row.1 ≡ form = cc in
          let first : goes row.1 ≡ should_go row.1 = ap (λ (l : List (ℕ → Option ℕ × Bool)). get_or l 0 (goes row.1)) e in
          let P : Form → Type 0 = λ f. goes f ≡ should_go f in
          subst P same first)
      | inr other ↦ row_agrees rows byte form (ap (λ (l : List (ℕ → Option ℕ × Bool)). drop 1 l) e) (rw other at h)
    ]

after_agrees : (code : List ℕ) (at byte : ℕ) (f : Form × ℕ) → form_after code at byte ≡ Some f → goes f.0 ≡ should_go f.0
after_agrees code at byte f e =
    let P : Form → Type 0 = λ form. goes form ≡ should_go form in
    elim (cases_Bool (byte == prefix)) [
      | inl here ↦ (
          let long : option_map (λ form. (form, at + 2)) (option_and_then (form_among two_bytes) (slice_get code (at + 1))) ≡ Some f = rw here at e in
          let parts = map_some (λ form. (form, at + 2)) (option_and_then (form_among two_bytes) (slice_get code (at + 1))) f long in
          let inner = then_some (form_among two_bytes) (slice_get code (at + 1)) parts.0 parts.1 in
          subst P (ap (λ (p : Form × ℕ). p.0) parts.2) (row_agrees two_bytes inner.0 parts.0 two_bytes_agree inner.2))
      | inr differs ↦ (
          let short : option_map (λ form. (form, at + 1)) (form_among one_byte byte) ≡ Some f = rw differs at e in
          let parts = map_some (λ form. (form, at + 1)) (form_among one_byte byte) f short in
          subst P (ap (λ (p : Form × ℕ). p.0) parts.2) (row_agrees one_byte byte parts.0 one_byte_agrees parts.1))
    ]

form_agrees : (code : List ℕ) (at : ℕ) (f : Form × ℕ) → form_at code at ≡ Some f → goes f.0 ≡ should_go f.0
unfolding form_at
form_agrees code at f e = let parts = then_some (form_after code at) (slice_get code at) f e in after_agrees code at parts.0 f parts.2

-- the offset is that of an instruction
abbrev Begins : List ℕ → ℕ → Type 0
Begins code target = IsTrue (is_start code target)

begins_there : (code : List ℕ) (starts : List Bool) (target : ℕ) → starts_of code ≡ Ok starts → is_marked starts target ≡ true → Begins code target
begins_there code starts target read marked = sym (marked_start code starts target read) ∙ marked

form_leads : (code : List ℕ) (starts : List Bool) (form : Form) (at next y : ℕ) (op : Op) → starts_of code ≡ Ok starts → goes form ≡ should_go form → check_targets code starts form at next ≡ Ok y → op_of code form at next ≡ Some op → IfSome (branch_target op) (Begins code)
unfolding check_targets op_of goes should_go
form_leads code starts (bare op) at next y made read agrees checked is =
    let none : branch_target op ≡ None = ap (λ (f : ℕ → Option ℕ × Bool). (f 0).0) agrees in
    let same : op ≡ made = cc in
    subst (λ op. IfSome (branch_target op) (Begins code)) same (rw none tt)
form_leads code starts (number size make) at next y made read agrees checked is =
    let none : branch_target (make (le code at size)) ≡ None = ap (λ (f : ℕ → Option ℕ × Bool). (f (le code at size)).0) agrees in
    let same : make (le code at size) ≡ made = cc in
    subst (λ op. IfSome (branch_target op) (Begins code)) same (rw none tt)
form_leads code starts (branch size make) at next y made read agrees checked is =
    let target = target_there starts (target_at code size next at) (must_ok (is_target starts (target_at code size next at)) at y checked) in
    let parts = map_some make (target_at code size next at) made is in
    let place : ◌≡◌ {A = Option ℕ} (Some target.0) (Some parts.0) = sym target.1 ∙ parts.1 in
    let there : target.0 ≡ parts.0 = cc in
    let leads : branch_target (make parts.0) ≡ Some parts.0 = ap (λ (f : ℕ → Option ℕ × Bool). (f parts.0).0) agrees in
    let begins : Begins code target.0 = begins_there code starts target.0 read target.2 in
    subst (λ op. IfSome (branch_target op) (Begins code)) parts.2 (rw leads (subst (Begins code) there begins))
form_leads code starts switch at next y made read agrees checked is =
    let same : Switch (le code at 4) (at + 4) ≡ made = cc in
    subst (λ op. IfSome (branch_target op) (Begins code)) same tt

pub branches_lead : BranchesLeadToInstructions
unfolding instruction_at
branches_lead bytes body at op next e is =
    let read = code_read bytes body e in
    let here = instr_is body at (op, next) is in
    let start = start_is body.code at here.0 in
    let form = then_some _ (form_at body.code at) (op, next) here.1 in
    let end = then_some _ (operand_end body.code form.0.0 form.0.1) (op, next) form.2 in
    let made = map_some _ (op_of body.code form.0.0 form.0.1 end.0) (op, next) end.2 in
    let same : made.0 ≡ op = ap (λ (p : Op × ℕ). p.0) made.2 in
    let checked = checked_at body.code read.0 at end.0 read.2.0 form.0 read.2.1 (marked_start body.code read.0 at read.1 ∙ here.0) start.0 form.1 end.1 in
    subst (λ op. IfSome (branch_target op) (Begins body.code)) same
    (form_leads body.code read.0 form.0.0 form.0.1 end.0 checked.0 made.0 read.1 (form_agrees body.code at form.0 form.1) checked.1 made.1)

no_switch : (op : Op) (count first : ℕ) → is_switch op ≡ false → op ≡ Switch count first → ⊥
unfolding is_switch
no_switch op count first other is = let one : is_switch op ≡ true = rw is refl in both_ways (is_switch op) other one

-- what a switch is: the number of its targets and the place of the first distance, which stand in the code
switch_form : (code : List ℕ) (form : Form) (at next count first : ℕ) → goes form ≡ should_go form → operand_end code form at ≡ Some next → op_of code form at next ≡ Some (Switch count first) → (form ≡ switch) × (le code at 4 ≡ count) × (at + 4 ≡ first) × (first + 4 * count ≡ next)
unfolding op_of goes should_go
switch_form code (bare op) at next count first agrees ends is =
    absurd (no_switch op count first (ap (λ (f : ℕ → Option ℕ × Bool). (f 0).1) agrees) (cc))
switch_form code (number size make) at next count first agrees ends is =
    absurd (no_switch (make (le code at size)) count first (ap (λ (f : ℕ → Option ℕ × Bool). (f (le code at size)).1) agrees) (cc))
switch_form code (branch size make) at next count first agrees ends is =
    let parts = map_some make (target_at code size next at) (Switch count first) is in
    absurd (no_switch (make parts.0) count first (ap (λ (f : ℕ → Option ℕ × Bool). (f parts.0).1) agrees) parts.2)
switch_form code switch at next count first agrees ends is =
    let count_is : le code at 4 ≡ count = cc in
    let place : at + 4 ≡ first = cc in
    let size = switch_size code at next ends in
    (refl, count_is, place, omega (arith, count_is, place, size))

-- the switch at an offset
pub switch_at : (code : List ℕ) (at count first next : ℕ) → instruction_at code at ≡ Some (Switch count first, next) → (f : Form × ℕ) × (form_at code at ≡ Some f) × (operand_end code f.0 f.1 ≡ Some next) × (f.0 ≡ switch) × (le code f.1 4 ≡ count) × (f.1 + 4 ≡ first) × (first + 4 * count ≡ next)
unfolding instruction_at
switch_at code at count first next e =
    let form = then_some _ (form_at code at) (Switch count first, next) e in
    let end = then_some _ (operand_end code form.0.0 form.0.1) (Switch count first, next) form.2 in
    let made = map_some _ (op_of code form.0.0 form.0.1 end.0) (Switch count first, next) end.2 in
    let op : made.0 ≡ Switch count first = ap (λ (p : Op × ℕ). p.0) made.2 in
    let place : end.0 ≡ next = ap (λ (p : Op × ℕ). p.1) made.2 in
    let ends : operand_end code form.0.0 form.0.1 ≡ Some next = end.1 ∙ ap Some place in
    let Q : ℕ → Type 0 = λ n. op_of code form.0.0 form.0.1 n ≡ Some (Switch count first) in
    let is : op_of code form.0.0 form.0.1 next ≡ Some (Switch count first) = subst Q place (made.1 ∙ ap Some op) in
    let parts = switch_form code form.0.0 form.0.1 next count first (form_agrees code at form.0 form.1) ends is in
    (form.0, form.1, ends, parts.0, parts.1, parts.2, parts.3)

-- the distances of a switch stand in the code
pub switch_room : (code : List ℕ) (at count first next : ℕ) → instruction_at code at ≡ Some (Switch count first, next) → first + 4 * count ≤ length code
switch_room code at count first next e =
    let parts = switch_at code at count first next e in
    let form = form_range code at parts.0 parts.1 in
    let range = operand_range code parts.0.0 parts.0.1 next form.1 parts.2 in
    omega (arith, parts.6, range.1)

-- the same of the switch that a body gives
pub switch_room_of : (body : MethodBody) (at count first : ℕ) (x : Op × ℕ) → Some x ≡ instr_of body at → x.0 ≡ Switch count first → first + 4 * count ≤ length body.code
switch_room_of body at count first x is op =
    let here = instr_is body at x (sym is) in
    switch_room body.code at count first x.1 (here.1 ∙ ap (λ (o : Op). Some (o, x.1)) op)

switch_checked : (code : List ℕ) (starts : List Bool) (form : Form) (at next y count first : ℕ) → form ≡ switch → check_targets code starts form at next ≡ Ok y → le code at 4 ≡ count → at + 4 ≡ first → check_switch code starts first count ≡ Ok y
unfolding check_targets
switch_checked code starts (bare op) at next y count first is e count_is place = absurd (cc)
switch_checked code starts (number size make) at next y count first is e count_is place = absurd (cc)
switch_checked code starts (branch size make) at next y count first is e count_is place = absurd (cc)
switch_checked code starts switch at next y count first is e count_is place = rw (← count_is, ← place) e

one_target : (code : List ℕ) (starts : List Bool) (first count y k : ℕ) → check_switch code starts first count ≡ Ok y → k < count → is_target starts (switch_target_at code count first k) ≡ true
unfolding check_switch
one_target code starts first count y k e h =
    let checked = each_ok (λ k. must (is_target starts (switch_target_at code count first k)) (first + 4 * k)) count y e k h in
    must_ok (is_target starts (switch_target_at code count first k)) (first + 4 * k) checked.0 checked.1

pub switches_lead : SwitchesLeadToInstructions
switches_lead bytes body at count first next k e is h =
    let read = code_read bytes body e in
    let here = instr_is body at (Switch count first, next) is in
    let start = start_is body.code at here.0 in
    let parts = switch_at body.code at count first next here.1 in
    let checked = checked_at body.code read.0 at next read.2.0 parts.0 read.2.1 (marked_start body.code read.0 at read.1 ∙ here.0) start.0 parts.1 parts.2 in
    let all = switch_checked body.code read.0 parts.0.0 parts.0.1 next checked.0 count first parts.3 checked.1 parts.4 parts.5 in
    let target = target_there read.0 (switch_target_at body.code count first k) (one_target body.code read.0 first count checked.0 k all h) in
    (target.0, rw (is, lt-ltb k count h) target.1, begins_there body.code read.0 target.0 read.1 target.2)
