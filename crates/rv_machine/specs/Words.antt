-- The words of a register as numbers (RISC-V unprivileged ISA, RV64I and M).
use Rattle.std.specs.Prelude.{ℕ, ◌%◌, ◌^◌, Bool, ℤ, pos, negsuc, unsigned_abs, int_div, int_rem}
use Rattle.std.specs.Prelude.{if◌then◌else◌}
use Rattle.std.specs.Int.{w32, w64, cast_signed, int_rem_euclid, int_div_euclid}
use Rattle.std.specs.Ordering.{int_eq}

-- the low n bits of an integer, in two's complement
abbrev pub low_bits : ℕ → ℤ → ℕ
low_bits n z = unsigned_abs (int_rem_euclid z (pos (2 ^ n)))

-- the word that an integer leaves in a register: overflow is ignored
abbrev pub word : ℤ → ℕ
word z = low_bits 64 z

-- the same of an instruction whose result has 32 bits: these, sign-extended to 64
abbrev pub word32 : ℤ → ℕ
word32 z = word (cast_signed w32 (low_bits 32 z))

-- a word as a signed number
abbrev pub signed : ℕ → ℤ
signed x = cast_signed w64 x

-- its low 32 bits without a sign, and as a signed number
abbrev pub unsigned32 : ℕ → ℤ
unsigned32 x = pos (x % 2 ^ 32)

abbrev pub signed32 : ℕ → ℤ
signed32 x = cast_signed w32 (x % 2 ^ 32)

-- a test as a number
abbrev pub flag : Bool → ℕ
flag b = if b then 1 else 0

-- an integer divided by 2 ^ k, rounded down
abbrev pub shifted_right : ℤ → ℕ → ℤ
shifted_right z k = int_div_euclid z (pos (2 ^ k))

-- the quotient rounded toward zero, and -1 where the divisor is 0
abbrev pub quotient : ℤ → ℤ → ℤ
quotient z d = if int_eq d (pos 0) then negsuc 0 else int_div z d

-- its remainder, and the dividend where the divisor is 0
abbrev pub remainder : ℤ → ℤ → ℤ
remainder z d = if int_eq d (pos 0) then z else int_rem z d
