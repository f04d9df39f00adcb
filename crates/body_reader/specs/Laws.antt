-- What holds of all code and of all bodies.
use Rattle.std.specs.Prelude.{◌≡◌, ◌<◌, ℕ, ◌⊎◌, ◌↔◌, ◌++◌, IsTrue, IfSome, List, length, Option, Some, None, Ok}
use Rattle.body_reader.specs.declared.op.Op.{Op}
use Rattle.body_reader.specs.declared.op.Op.TheVariants.{Branch, BranchFalse, BranchTrue, BranchCompare, Leave, Switch}
use Rattle.body_reader.specs.Instructions.{next_at}
use Rattle.body_reader.specs.Code.{is_start}
use Rattle.body_reader.specs.Bodies.{MethodBody, body_of, instr_of, switch_target_of}

-- offsets that instructions lead to: 0, and the end of each instruction at such an offset
pub data Reached (code : List ℕ) : ℕ → Type 0 where
  first : Reached code 0
  after : (at next : ℕ) → Reached code at → next_at code at ≡ Some next → Reached code next

-- An instruction begins exactly at the offsets inside the code that instructions lead to.
abbrev pub StartsAreReached : Type 0
StartsAreReached = (code : List ℕ) (at : ℕ) → IsTrue (is_start code at) ↔ (Reached code at × (at < length code))

-- Instructions fill the code of a body end to end.
abbrev pub InstructionsFillCode : Type 0
InstructionsFillCode = (bytes : List ℕ) (body : MethodBody) → body_of bytes ≡ Ok body → Reached body.code (length body.code)

-- Behind an instruction of a body the next begins, or the code ends.
abbrev pub InstructionsFollow : Type 0
InstructionsFollow =
    (bytes : List ℕ) (body : MethodBody) (at : ℕ) (op : Op) (next : ℕ) → body_of bytes ≡ Ok body →
    instr_of body at ≡ Some (op, next) →
    (at < next) × (IsTrue (is_start body.code next) ⊎ (next ≡ length body.code))

-- where a branch goes; a switch isn't among them
abbrev pub branch_target : Op → Option ℕ
branch_target (Branch target) = Some target
branch_target (BranchFalse target) = Some target
branch_target (BranchTrue target) = Some target
branch_target (BranchCompare test target) = Some target
branch_target (Leave target) = Some target
branch_target _ = None

-- Each branch of a body leads to an instruction.
abbrev pub BranchesLeadToInstructions : Type 0
BranchesLeadToInstructions =
    (bytes : List ℕ) (body : MethodBody) (at : ℕ) (op : Op) (next : ℕ) → body_of bytes ≡ Ok body →
    instr_of body at ≡ Some (op, next) → IfSome (branch_target op) (λ target. IsTrue (is_start body.code target))

-- A switch of a body leads to an instruction for each number below that of its targets.
abbrev pub SwitchesLeadToInstructions : Type 0
SwitchesLeadToInstructions =
    (bytes : List ℕ) (body : MethodBody) (at count first next k : ℕ) → body_of bytes ≡ Ok body →
    instr_of body at ≡ Some (Switch count first, next) → k < count →
    (target : ℕ) × (switch_target_of body at k ≡ Some target) × IsTrue (is_start body.code target)

-- What follows a body isn't looked at.
abbrev pub RestIsNotRead : Type 0
RestIsNotRead =
    (bytes rest : List ℕ) (body : MethodBody) → body_of bytes ≡ Ok body → body_of (bytes ++ rest) ≡ Ok body
