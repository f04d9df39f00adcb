-- Where the words of arguments are passed under LP64 (RISC-V ELF psABI, Integer Calling Convention).
use Rattle.std.specs.Prelude.{ℕ, ◌+◌, ◌-◌, ◌*◌, nat_lt, nat_le, List, [], ◌∷◌, Option, Some, None, if◌then◌else◌}
use Rattle.lp64_convention.specs.declared.places.Slot.{Slot}
use Rattle.lp64_convention.specs.declared.places.Slot.TheVariants.{Reg, Stack}

-- XLEN, the bytes of an integer register and of a word on the stack
abbrev pub word_size : ℕ
word_size = 8

-- the argument registers a0 to a7: how many, and the number of a0
abbrev pub argument_registers : ℕ
argument_registers = 8

abbrev pub first_argument_register : ℕ
first_argument_register = 10

-- the words of an argument: one up to XLEN, two up to twice XLEN; a larger one is passed by its address, one word
abbrev pub word_count : ℕ → ℕ
word_count size = if nat_le size word_size then 1 else if nat_le size (2 * word_size) then 2 else 1

-- the words in order: in the argument registers, and then on the stack
abbrev pub place_of : ℕ → Slot
place_of k =
    if nat_lt k argument_registers
    then Reg (first_argument_register + k)
    else Stack (word_size * (k - argument_registers))

-- the number of the register where a word is passed, None where it is passed on the stack
abbrev pub register_of : Slot → Option ℕ
register_of (Reg number) = Some number
register_of (Stack at) = None

-- The registers that a function leaves to its caller as they were (RISC-V ELF psABI, Integer Register Convention), in order:
-- sp, gp and tp, which are x2 to x4, and s0 to s11, which are x8, x9 and x18 to x27.
abbrev pub preserved_registers : List ℕ
preserved_registers = 2 ∷ 3 ∷ 4 ∷ 8 ∷ 9 ∷ 18 ∷ 19 ∷ 20 ∷ 21 ∷ 22 ∷ 23 ∷ 24 ∷ 25 ∷ 26 ∷ 27 ∷ []
