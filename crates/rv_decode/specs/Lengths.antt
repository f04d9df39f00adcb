-- How long instructions are.
use Rattle.std.specs.Prelude.{ℕ}

-- How many bytes the instruction with this word takes: 4, as each of RV64I and of the M extension
-- (RISC-V unprivileged ISA, Base Instruction-Length Encoding).
abbrev pub length_of : ℕ → ℕ
length_of word = 4
