-- The code of a method: instructions end to end, and branches to instructions (ECMA-335 III.1.2,
-- II.25.4). An offset is refused that no whole instruction fits, the first from the left.
use Rattle.std.specs.Prelude.{ℕ, zero, suc, ◌+◌, ◌*◌, Bool, false, ◌&&◌, nat_lt, ◌==◌, List, length, map, slice_get, Option, Some, None, unwrap_or, Result, Ok, Err, if◌then◌else◌}
use Rattle.std.specs.List.{range_with_len}
use Rattle.std.specs.Option.{ok_or}
use Rattle.byte_view.specs.Numbers.{le}
use Rattle.byte_view.specs.Reading.{◌>>=◌, must, each}
use Rattle.body_reader.specs.Opcodes.{Form, bare, number, branch, switch}
use Rattle.body_reader.specs.Instructions.{form_at, operand_end, next_at, target_at, switch_target_at}

-- where the next instruction begins, behind an offset at or behind which the first one does
abbrev pub first_after : List ℕ → ℕ → ℕ → Result ℕ ℕ
first_after code k first = if first == k then ok_or (next_at code k) k else Ok first

-- where the first instruction at an offset or after it begins; those before are whole
unfoldable pub first_from : List ℕ → ℕ → Result ℕ ℕ
first_from code zero = Ok 0
first_from code (suc k) = first_from code k >>= first_after code k

abbrev pub is_first : ℕ → Result ℕ ℕ → Bool
is_first at (Ok first) = first == at
is_first at (Err place) = false

-- an instruction begins at an offset
unfoldable pub is_start : List ℕ → ℕ → Bool
is_start code at = nat_lt at (length code) && is_first at (first_from code at)

-- of each offset, whether an instruction begins there
abbrev pub marks : List ℕ → ℕ → List Bool
marks code count = map (λ at. is_first at (first_from code at)) (range_with_len 0 count)

-- the same where instructions stand end to end, or the first offset where none fits
unfoldable pub starts_of : List ℕ → Result (List Bool) ℕ
starts_of code = first_from code (length code) >>= λ _. Ok (marks code (length code))

-- an offset is marked as that of an instruction
abbrev pub is_marked : List Bool → ℕ → Bool
is_marked starts at = unwrap_or (slice_get starts at) false

-- a branch's target is an instruction
abbrev pub is_target : List Bool → Option ℕ → Bool
is_target starts None = false
is_target starts (Some at) = is_marked starts at

-- the targets of a switch, of which there are `count`, whose distances begin at a place
unfoldable pub check_switch : List ℕ → List Bool → ℕ → ℕ → Result ℕ ℕ
check_switch code starts at count =
    each (λ k. must (is_target starts (switch_target_at code count at k)) (at + 4 * k)) count

-- the targets of an instruction by its form, operand and next place, each an instruction; one that
-- isn't is refused at its distance
unfoldable pub check_targets : List ℕ → List Bool → Form → ℕ → ℕ → Result ℕ ℕ
check_targets code starts (bare op) at next = Ok 0
check_targets code starts (number size make) at next = Ok 0
check_targets code starts (branch size make) at next =
    must (is_target starts (target_at code size next at)) at
check_targets code starts switch at next =
    check_switch code starts (at + 4) (le code at 4)

abbrev pub check_before : List ℕ → List Bool → Form × ℕ → Option ℕ → Result ℕ ℕ
check_before code starts f None = Ok 0
check_before code starts f (Some next) = check_targets code starts f.0 f.1 next

abbrev pub check_form : List ℕ → List Bool → Option (Form × ℕ) → Result ℕ ℕ
check_form code starts None = Ok 0
check_form code starts (Some f) = check_before code starts f (operand_end code f.0 f.1)

-- the targets of the instruction at an offset, if one begins there
abbrev pub check_at : List ℕ → List Bool → ℕ → Result ℕ ℕ
check_at code starts at =
    if is_marked starts at then check_form code starts (form_at code at) else Ok 0

-- all targets, instruction after instruction
unfoldable pub targets_in : List ℕ → List Bool → Result ℕ ℕ
targets_in code starts = each (check_at code starts) (length code)
