-- What each instruction does, by the pc and the registers before it (RISC-V unprivileged ISA,
-- RV32I Base Integer Instruction Set, RV64I Base Integer Instruction Set, M Extension).
use Rattle.std.specs.Prelude.{ℕ, ◌*◌, ◌/◌, ◌%◌, ◌^◌, not, true, false, ◌==◌, nat_lt, bit_and}
use Rattle.std.specs.Prelude.{bit_or, bit_xor, ℤ, pos, ◌+ℤ◌, ◌-ℤ◌, ◌*ℤ◌, int_lt}
use Rattle.rv_decode.specs.declared.instr.Instr.{Instr}
use Rattle.rv_decode.specs.declared.instr.Instr.TheVariants.{Lui, Auipc, Jal, Jalr, Beq, Bne, Blt}
use Rattle.rv_decode.specs.declared.instr.Instr.TheVariants.{Bge, Bltu, Bgeu, Lb, Lh, Lw, Ld, Lbu}
use Rattle.rv_decode.specs.declared.instr.Instr.TheVariants.{Lhu, Lwu, Sb, Sh, Sw, Sd, Addi, Slti}
use Rattle.rv_decode.specs.declared.instr.Instr.TheVariants.{Sltiu, Xori, Ori, Andi, Slli, Srli}
use Rattle.rv_decode.specs.declared.instr.Instr.TheVariants.{Srai, Add, Sub, Sll, Slt, Sltu, Xor}
use Rattle.rv_decode.specs.declared.instr.Instr.TheVariants.{Srl, Sra, Or, And, Addiw, Slliw, Srliw}
use Rattle.rv_decode.specs.declared.instr.Instr.TheVariants.{Sraiw, Addw, Subw, Sllw, Srlw, Sraw}
use Rattle.rv_decode.specs.declared.instr.Instr.TheVariants.{Fence, Ecall, Ebreak, Mul, Mulh}
use Rattle.rv_decode.specs.declared.instr.Instr.TheVariants.{Mulhsu, Mulhu, Div, Divu, Rem, Remu}
use Rattle.rv_decode.specs.declared.instr.Instr.TheVariants.{Mulw, Divw, Divuw, Remw, Remuw}
use Rattle.rv_machine.specs.declared.effect.Effect.{Effect}
use Rattle.rv_machine.specs.declared.effect.Effect.TheVariants.{Set, Jump, Branch, Load, Store}
use Rattle.rv_machine.specs.declared.effect.Effect.TheVariants.{Nothing, Trap}
use Rattle.rv_machine.specs.declared.effect.Width.TheVariants.{Byte, Half, Word, Double}
use Rattle.rv_machine.specs.Words.{word, word32, signed, signed32, unsigned32, flag, shifted_right}
use Rattle.rv_machine.specs.Words.{quotient, remainder}

-- the immediate of LUI and AUIPC is the upper part of 32 bits
abbrev pub upper : ℤ → ℤ
upper z = z *ℤ pos (2 ^ 12)

-- with bit 0 cleared
abbrev pub even : ℕ → ℕ
even n = n / 2 * 2

-- d is the destination register, a and b the sources, `x r` the word in register r, and z a signed
-- immediate. A shift is by the low 6 bits of its amount, one on 32 bits by the low 5.
abbrev pub effect : Instr → ℕ → (ℕ → ℕ) → Effect
effect (Lui d z) pc x = Set d (word (upper z))
effect (Auipc d z) pc x = Set d (word (pos pc +ℤ upper z))
effect (Jal d z) pc x = Jump d (word (pos pc +ℤ z))
effect (Jalr d a z) pc x = Jump d (even (word (pos (x a) +ℤ z)))
effect (Beq a b z) pc x = Branch (x a == x b) (word (pos pc +ℤ z))
effect (Bne a b z) pc x = Branch (not (x a == x b)) (word (pos pc +ℤ z))
effect (Blt a b z) pc x = Branch (int_lt (signed (x a)) (signed (x b))) (word (pos pc +ℤ z))
effect (Bge a b z) pc x = Branch (not (int_lt (signed (x a)) (signed (x b)))) (word (pos pc +ℤ z))
effect (Bltu a b z) pc x = Branch (nat_lt (x a) (x b)) (word (pos pc +ℤ z))
effect (Bgeu a b z) pc x = Branch (not (nat_lt (x a) (x b))) (word (pos pc +ℤ z))
effect (Lb d a z) pc x = Load d (word (pos (x a) +ℤ z)) Byte true
effect (Lh d a z) pc x = Load d (word (pos (x a) +ℤ z)) Half true
effect (Lw d a z) pc x = Load d (word (pos (x a) +ℤ z)) Word true
effect (Ld d a z) pc x = Load d (word (pos (x a) +ℤ z)) Double true
effect (Lbu d a z) pc x = Load d (word (pos (x a) +ℤ z)) Byte false
effect (Lhu d a z) pc x = Load d (word (pos (x a) +ℤ z)) Half false
effect (Lwu d a z) pc x = Load d (word (pos (x a) +ℤ z)) Word false
effect (Sb a b z) pc x = Store (word (pos (x a) +ℤ z)) Byte (x b)
effect (Sh a b z) pc x = Store (word (pos (x a) +ℤ z)) Half (x b)
effect (Sw a b z) pc x = Store (word (pos (x a) +ℤ z)) Word (x b)
effect (Sd a b z) pc x = Store (word (pos (x a) +ℤ z)) Double (x b)
effect (Addi d a z) pc x = Set d (word (pos (x a) +ℤ z))
effect (Slti d a z) pc x = Set d (flag (int_lt (signed (x a)) z))
effect (Sltiu d a z) pc x = Set d (flag (nat_lt (x a) (word z)))
effect (Xori d a z) pc x = Set d (bit_xor (x a) (word z))
effect (Ori d a z) pc x = Set d (bit_or (x a) (word z))
effect (Andi d a z) pc x = Set d (bit_and (x a) (word z))
effect (Slli d a amount) pc x = Set d (word (pos (x a * 2 ^ (amount % 64))))
effect (Srli d a amount) pc x = Set d (word (shifted_right (pos (x a)) (amount % 64)))
effect (Srai d a amount) pc x = Set d (word (shifted_right (signed (x a)) (amount % 64)))
effect (Add d a b) pc x = Set d (word (pos (x a) +ℤ pos (x b)))
effect (Sub d a b) pc x = Set d (word (pos (x a) -ℤ pos (x b)))
effect (Sll d a b) pc x = Set d (word (pos (x a * 2 ^ (x b % 64))))
effect (Slt d a b) pc x = Set d (flag (int_lt (signed (x a)) (signed (x b))))
effect (Sltu d a b) pc x = Set d (flag (nat_lt (x a) (x b)))
effect (Xor d a b) pc x = Set d (bit_xor (x a) (x b))
effect (Srl d a b) pc x = Set d (word (shifted_right (pos (x a)) (x b % 64)))
effect (Sra d a b) pc x = Set d (word (shifted_right (signed (x a)) (x b % 64)))
effect (Or d a b) pc x = Set d (bit_or (x a) (x b))
effect (And d a b) pc x = Set d (bit_and (x a) (x b))
effect (Addiw d a z) pc x = Set d (word32 (pos (x a) +ℤ z))
effect (Slliw d a amount) pc x = Set d (word32 (pos (x a * 2 ^ (amount % 32))))
effect (Srliw d a amount) pc x = Set d (word32 (shifted_right (unsigned32 (x a)) (amount % 32)))
effect (Sraiw d a amount) pc x = Set d (word32 (shifted_right (signed32 (x a)) (amount % 32)))
effect (Addw d a b) pc x = Set d (word32 (pos (x a) +ℤ pos (x b)))
effect (Subw d a b) pc x = Set d (word32 (pos (x a) -ℤ pos (x b)))
effect (Sllw d a b) pc x = Set d (word32 (pos (x a * 2 ^ (x b % 32))))
effect (Srlw d a b) pc x = Set d (word32 (shifted_right (unsigned32 (x a)) (x b % 32)))
effect (Sraw d a b) pc x = Set d (word32 (shifted_right (signed32 (x a)) (x b % 32)))
effect (Fence _ _ _ _ _) pc x = Nothing
effect Ecall pc x = Trap
effect Ebreak pc x = Trap
effect (Mul d a b) pc x = Set d (word (pos (x a) *ℤ pos (x b)))
effect (Mulh d a b) pc x = Set d (word (shifted_right (signed (x a) *ℤ signed (x b)) 64))
effect (Mulhsu d a b) pc x = Set d (word (shifted_right (signed (x a) *ℤ pos (x b)) 64))
effect (Mulhu d a b) pc x = Set d (word (shifted_right (pos (x a) *ℤ pos (x b)) 64))
effect (Div d a b) pc x = Set d (word (quotient (signed (x a)) (signed (x b))))
effect (Divu d a b) pc x = Set d (word (quotient (pos (x a)) (pos (x b))))
effect (Rem d a b) pc x = Set d (word (remainder (signed (x a)) (signed (x b))))
effect (Remu d a b) pc x = Set d (word (remainder (pos (x a)) (pos (x b))))
effect (Mulw d a b) pc x = Set d (word32 (pos (x a) *ℤ pos (x b)))
effect (Divw d a b) pc x = Set d (word32 (quotient (signed32 (x a)) (signed32 (x b))))
effect (Divuw d a b) pc x = Set d (word32 (quotient (unsigned32 (x a)) (unsigned32 (x b))))
effect (Remw d a b) pc x = Set d (word32 (remainder (signed32 (x a)) (signed32 (x b))))
effect (Remuw d a b) pc x = Set d (word32 (remainder (unsigned32 (x a)) (unsigned32 (x b))))
