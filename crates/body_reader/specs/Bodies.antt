-- Method bodies (ECMA-335 II.25.4), part by part: the header, the instructions, the targets of
-- branches, the clauses. The first part that is broken is refused, at its first place that is missing
-- or wrong.
use Rattle.std.specs.Prelude.{◌≡◌, ◌<◌, ◌^◌, ℕ, ◌+◌, ◌*◌, ◌/◌, ◌%◌, Bool, false, not, nat_lt, ◌==◌, List, [], length, take, drop, Option, None, option_and_then, bit_and, Result, Ok, Err, if◌then◌else◌}
use Rattle.byte_view.specs.Reading.{◌>>=◌, must}
use Rattle.body_reader.specs.declared.clause.Clause.{Clause}
use Rattle.body_reader.specs.declared.op.Op.{Op}
use Rattle.body_reader.specs.declared.op.Op.TheVariants.{Switch}
use Rattle.body_reader.specs.Instructions.{instruction_at, switch_target_at}
use Rattle.body_reader.specs.Code.{starts_of, is_start, targets_in}
use Rattle.body_reader.specs.Clauses.{number_in, sections_from}

-- a method's body: how many values its stack holds, its code, the token of its locals' signature or 0,
-- its clauses
pub record MethodBody : Type 0 where
  pub max_stack : ℕ
  pub code : List ℕ
  pub locals : ℕ
  pub clauses : List Clause

-- what a header tells: where the code begins and its size, and whether sections follow
pub record Header : Type 0 where
  pub start : ℕ
  pub max_stack : ℕ
  pub size : ℕ
  pub locals : ℕ
  pub has_sections : Bool

-- a tiny header: the upper 6 bits are the size of the code (II.25.4.2)
abbrev pub tiny : ℕ → Header
tiny first = record { start = 1; max_stack = 8; size = first / 4; locals = 0; has_sections = false }

-- a fat header: 12 bytes, which the upper 4 bits of its first number say in words of 4 (II.25.4.3)
unfoldable pub fat : List ℕ → Result Header ℕ
fat bytes = do
  flags ← number_in bytes 0 2
  _ ← must (flags / 4096 == 3) 0
  max_stack ← number_in bytes 2 2
  size ← number_in bytes 4 4
  locals ← number_in bytes 8 4
  Ok (record {
    start = 12;
    max_stack = max_stack;
    size = size;
    locals = locals;
    has_sections = not (bit_and flags 0x8 == 0);
  })

-- the header, by the lower 2 bits of the first byte (II.25.4.1, II.25.4.4)
unfoldable pub header_of : List ℕ → Result Header ℕ
header_of bytes =
    number_in bytes 0 1 >>= λ first.
    if first % 4 == 2 then Ok (tiny first) else if first % 4 == 3 then fat bytes else Err 0

-- a place in the code as a place in the body
abbrev pub from_start : {A : Type 0} → ℕ → Result A ℕ → Result A ℕ
from_start start (Ok x) = Ok x
from_start start (Err at) = Err (start + at)

-- the first multiple of 4 from a place on, where a section begins (II.25.4.5)
abbrev pub aligned : ℕ → ℕ
aligned at = (at + 3) / 4 * 4

-- the clauses of a body, whose code ends at a place
abbrev pub clauses_of : Bool → List ℕ → List Bool → ℕ → Result (List Clause) ℕ
clauses_of has_sections bytes starts end =
    if has_sections then sections_from (length bytes) bytes starts (aligned end) else Ok []

-- the body that bytes begin with, whatever follows it, or where they are refused
unfoldable pub body_of : List ℕ → Result MethodBody ℕ
body_of bytes = do
  header ← header_of bytes
  let code : List ℕ = take header.size (drop header.start bytes)
  starts ← from_start header.start (starts_of code)
  _ ← must (length code == header.size) (header.start + length code)
  _ ← from_start header.start (targets_in code starts)
  clauses ← clauses_of header.has_sections bytes starts (header.start + header.size)
  Ok (record {
    max_stack = header.max_stack;
    code = code;
    locals = header.locals;
    clauses = clauses;
  })

-- the instruction that begins at an offset of a body's code, and the offset of the next
abbrev pub instr_of : MethodBody → ℕ → Option (Op × ℕ)
instr_of body at = if is_start body.code at then instruction_at body.code at else None

-- the code of a body with the marks of its instructions
pub record IsCode (code : List ℕ) (starts : List Bool) : Type 0 where
  pub marked : starts_of code ≡ Ok starts
  pub targets : targets_in code starts ≡ Ok 0
  pub small : length code < 2 ^ 32

-- where a switch goes for a number that is below the number of its targets
abbrev pub target_in : List ℕ → Op → ℕ → Option ℕ
target_in code (Switch count at) k = if nat_lt k count then switch_target_at code count at k else None
target_in code _ k = None

-- the target of a number of the switch that begins at an offset, if it has so many
abbrev pub switch_target_of : MethodBody → ℕ → ℕ → Option ℕ
switch_target_of body at k =
    option_and_then (λ op. target_in body.code op.0 k) (instr_of body at)
