-- The instruction that begins at a place of code, and the place of the next (ECMA-335 III.1.2 and the
-- format lines of III.2 to III.4).
use Rattle.std.specs.Prelude.{ℕ, ◌+◌, ◌-◌, ◌*◌, ◌^◌, nat_lt, nat_le, ◌==◌, List, length, slice_get, Option, Some, None, option_map, option_and_then, if◌then◌else◌}
use Rattle.byte_view.specs.Numbers.{le, number_at}
use Rattle.body_reader.specs.declared.op.Op.{Op}
use Rattle.body_reader.specs.declared.op.Op.TheVariants.{Switch}
use Rattle.body_reader.specs.Opcodes.{Form, bare, number, branch, switch, one_byte, prefix, two_bytes, form_among}

-- the opcode that begins with a byte: its form, and the place of its operand
abbrev pub form_after : List ℕ → ℕ → ℕ → Option (Form × ℕ)
form_after code at first =
    if first == prefix
    then option_map (λ form. (form, at + 2))
    (option_and_then (form_among two_bytes) (slice_get code (at + 1)))
    else option_map (λ form. (form, at + 1)) (form_among one_byte first)

-- the form of the opcode at a place, and the place of its operand
unfoldable pub form_at : List ℕ → ℕ → Option (Form × ℕ)
form_at code at = option_and_then (form_after code at) (slice_get code at)

-- where so many bytes from a place on end, all of which are there
abbrev pub end_of : List ℕ → ℕ → ℕ → Option ℕ
end_of code at size = if nat_le (at + size) (length code) then Some (at + size) else None

-- where the operand ends; that of a switch is the number of its targets and a distance for each
unfoldable pub operand_end : List ℕ → Form → ℕ → Option ℕ
operand_end code (bare op) at = Some at
operand_end code (number size make) at = end_of code at size
operand_end code (branch size make) at = end_of code at size
operand_end code switch at =
    option_and_then (λ count. end_of code at (4 + 4 * count)) (number_at code at 4)

-- how many bytes an operand takes at least
abbrev pub least_size : Form → ℕ
least_size (bare op) = 0
least_size (number size make) = size
least_size (branch size make) = size
least_size switch = 4

-- an offset that lies in code of a size
abbrev pub within : ℕ → ℕ → Option ℕ
within size at = if nat_lt at size then Some at else None

-- a branch's target: its distance, a signed number of so many bytes, from the next instruction on;
-- none where that isn't in the code
unfoldable pub target_of : List ℕ → ℕ → ℕ → ℕ → Option ℕ
target_of code size next distance =
    if nat_lt distance (2 ^ (8 * size - 1)) then within (length code) (next + distance)
    else if nat_le (2 ^ (8 * size)) (next + distance)
    then within (length code) (next + distance - 2 ^ (8 * size))
    else None

-- the target of a branch whose distance stands at a place, with the place of the next instruction
abbrev pub target_at : List ℕ → ℕ → ℕ → ℕ → Option ℕ
target_at code size next at = target_of code size next (le code at size)

-- an instruction by its form and its operand; none where its target isn't in the code
unfoldable pub op_of : List ℕ → Form → ℕ → ℕ → Option Op
op_of code (bare op) at next = Some op
op_of code (number size make) at next = Some (make (le code at size))
op_of code (branch size make) at next = option_map make (target_at code size next at)
op_of code switch at next = Some (Switch (le code at 4) (at + 4))

-- the place after the instruction at a place, none where no whole instruction begins there
unfoldable pub next_at : List ℕ → ℕ → Option ℕ
next_at code at = option_and_then (λ f. operand_end code f.0 f.1) (form_at code at)

-- the instruction at a place, and the place of the next
unfoldable pub instruction_at : List ℕ → ℕ → Option (Op × ℕ)
instruction_at code at =
    option_and_then (λ f.
    option_and_then (λ next. option_map (λ op. (op, next)) (op_of code f.0 f.1 next))
    (operand_end code f.0 f.1))
    (form_at code at)

-- the target of a number among the `count` of a switch, which begin at a place
abbrev pub switch_target_at : List ℕ → ℕ → ℕ → ℕ → Option ℕ
switch_target_at code count at k = target_at code 4 (at + 4 * count) (at + 4 * k)
