-- The laws of code and of bodies.
use Rattle.std.proofs.Common.{◌≡◌, ℕ, ◌+◌, ◌<◌, Bool, true, List, length, take, drop, Option, Some, None, Ok, refl, ap, inl, inr, subst, arith, eq-eqb}
use Rattle.std.specs.Prelude.{◌==◌}
use Rattle.std.proofs.lemmas.Bool.{cases_lt, cases_Bool, lt-ltb}
use Rattle.byte_view.specs.Reading.{must}
use Rattle.byte_view.proofs.Reading.{bind_ok, same_read}
use Rattle.body_reader.specs.declared.op.Op.{Op}
use Rattle.body_reader.specs.Instructions.{form_at, operand_end, next_at, op_of, instruction_at}
use Rattle.body_reader.specs.Code.{is_start, starts_of, targets_in}
use Rattle.body_reader.specs.Bodies.{MethodBody, header_of, from_start, clauses_of, body_of, instr_of}
use Rattle.body_reader.specs.Laws.{Reached, after, StartsAreReached, InstructionsFillCode, InstructionsFollow}
use Rattle.body_reader.proofs.Options.{then_some, map_some}
use Rattle.body_reader.proofs.Places.{from_start_ok}
use Rattle.body_reader.proofs.Marks.{starts_are, start_is}
use Rattle.body_reader.proofs.Operands.{next_range}
use Rattle.body_reader.proofs.Reached.{first_reached, reached_first}

start_there : (code : List ℕ) (at : ℕ) → Reached code at → at < length code → is_start code at ≡ true
unfolding is_start
start_there code at r h = rw (lt-ltb at (length code) h, reached_first code at r) (eq-eqb at at refl)

pub starts_reached : StartsAreReached
starts_reached code at =
    (λ t. (let here = start_is code at t in let r = first_reached code at at here.1 in (r.0, here.0)), λ r. start_there code at r.0 r.1)

-- code that was read whole is filled by instructions
pub filled : (code : List ℕ) (starts : List Bool) → starts_of code ≡ Ok starts → Reached code (length code)
filled code starts e =
    let read = starts_are code starts e in
    let end = first_reached code (length code) read.0 read.1 in
    let same : read.0 ≡ length code = omega (arith, end.1, end.2) in
    subst (Reached code) same end.0

-- the code of a body was read whole, and its targets were checked
pub code_read : (bytes : List ℕ) (body : MethodBody) → body_of bytes ≡ Ok body → (starts : List Bool) × (starts_of body.code ≡ Ok starts) × ((y : ℕ) × (targets_in body.code starts ≡ Ok y))
unfolding body_of
code_read bytes body e =
    let h = bind_ok (header_of bytes) _ body e in
    let code : List ℕ = take h.0.size (drop h.0.start bytes) in
    let s = bind_ok (from_start h.0.start (starts_of code)) _ body h.2 in
    let m = bind_ok (must (length code == h.0.size) (h.0.start + length code)) _ body s.2 in
    let t = bind_ok (from_start h.0.start (targets_in code s.0)) _ body m.2 in
    let c = bind_ok (clauses_of h.0.has_sections bytes s.0 (h.0.start + h.0.size)) _ body t.2 in
    let same : code ≡ body.code = ap (λ (b : MethodBody). b.code) (same_read _ body c.2) in
    let P : List ℕ → Type 0 = λ code. (starts : List Bool) × (starts_of code ≡ Ok starts) × ((y : ℕ) × (targets_in code starts ≡ Ok y)) in
    subst P same (s.0, from_start_ok h.0.start (starts_of code) s.0 s.1, (t.0, from_start_ok h.0.start (targets_in code s.0) t.0 t.1))

pub fill_code : InstructionsFillCode
fill_code bytes body e = let read = code_read bytes body e in filled body.code read.0 read.1

-- the instruction at a place ends where the next begins
next_of : (code : List ℕ) (at next : ℕ) (op : Op) → instruction_at code at ≡ Some (op, next) → next_at code at ≡ Some next
unfolding instruction_at next_at
next_of code at next op e =
    let form = then_some _ (form_at code at) (op, next) e in
    let end = then_some _ (operand_end code form.0.0 form.0.1) (op, next) form.2 in
    let made = map_some _ (op_of code form.0.0 form.0.1 end.0) (op, next) end.2 in
    let same : end.0 ≡ next = ap (λ (p : Op × ℕ). p.1) made.2 in
    rw (form.1, end.1, same) refl

pub instr_is : (body : MethodBody) (at : ℕ) (x : Op × ℕ) → instr_of body at ≡ Some x → (is_start body.code at ≡ true) × (instruction_at body.code at ≡ Some x)
instr_is body at x e =
    elim (cases_Bool (is_start body.code at)) [
      | inl begins ↦ (begins, rw begins at e)
      | inr other ↦ (let none : ◌≡◌ {A = Option (Op × ℕ)} None (Some x) = rw other at e in absurd (cc))
    ]

pub follow : InstructionsFollow
follow bytes body at op next e is =
    let here = instr_is body at (op, next) is in
    let ends = next_of body.code at next op here.1 in
    let range = next_range body.code at next ends in
    let start = start_is body.code at here.0 in
    let before = first_reached body.code at at start.1 in
    let r : Reached body.code next = after at next before.0 ends in (
      range.0,
      elim (cases_lt next (length body.code)) [
        | inl l ↦ inl (start_there body.code next r l)
        | inr g ↦ inr (omega (arith, range.1, g))
      ],
    )
