-- The instruction of a word, by opcode, funct3, and funct7 or funct6 (RISC-V unprivileged ISA, RV32/64G Instruction Set
-- Listings). The law `DecodedIsEncoded` ties it to the encodings.
use Rattle.std.specs.Prelude.{ℕ, ◌+◌, ◌*◌, ◌^◌, ◌==◌, ℤ, Option, Some, None, if◌then◌else◌}
use Rattle.rv_decode.specs.declared.instr.Instr.{Instr}
use Rattle.rv_decode.specs.declared.instr.Instr.TheVariants.{Lui, Auipc, Jal, Jalr, Beq, Bne, Blt, Bge, Bltu, Bgeu, Lb, Lh, Lw, Ld, Lbu, Lhu, Lwu, Sb, Sh, Sw, Sd, Addi, Slti, Sltiu, Xori, Ori, Andi, Slli, Srli, Srai, Add, Sub, Sll, Slt, Sltu, Xor, Srl, Sra, Or, And, Addiw, Slliw, Srliw, Sraiw, Addw, Subw, Sllw, Srlw, Sraw, Fence, Ecall, Ebreak, Mul, Mulh, Mulhsu, Mulhu, Div, Divu, Rem, Remu, Mulw, Divw, Divuw, Remw, Remuw}
use Rattle.rv_decode.specs.Fields.{bits, signed}

abbrev pub opcode_of : ℕ → ℕ
opcode_of word = bits word 0 7

abbrev pub funct3_of : ℕ → ℕ
funct3_of word = bits word 12 3

abbrev pub funct6_of : ℕ → ℕ
funct6_of word = bits word 26 6

abbrev pub funct7_of : ℕ → ℕ
funct7_of word = bits word 25 7

abbrev pub rd_of : ℕ → ℕ
rd_of word = bits word 7 5

abbrev pub rs1_of : ℕ → ℕ
rs1_of word = bits word 15 5

abbrev pub rs2_of : ℕ → ℕ
rs2_of word = bits word 20 5

-- the amounts of the shifts of 64 and of 32 bits
abbrev pub shamt64_of : ℕ → ℕ
shamt64_of word = bits word 20 6

abbrev pub shamt32_of : ℕ → ℕ
shamt32_of word = bits word 20 5

-- the immediates of the formats I, S, B, U (the upper part alone) and J
abbrev pub i_imm : ℕ → ℤ
i_imm word = signed 12 (bits word 20 12)

abbrev pub s_imm : ℕ → ℤ
s_imm word = signed 12 (bits word 25 7 * 2 ^ 5 + bits word 7 5)

abbrev pub b_imm : ℕ → ℤ
b_imm word =
    signed 13
    (bits word 31 1 * 2 ^ 12 + bits word 7 1 * 2 ^ 11 + bits word 25 6 * 2 ^ 5 + bits word 8 4 * 2 ^ 1)

abbrev pub u_imm : ℕ → ℤ
u_imm word = signed 20 (bits word 12 20)

abbrev pub j_imm : ℕ → ℤ
j_imm word =
    signed 21
    (bits word 31 1 * 2 ^ 20 + bits word 12 8 * 2 ^ 12 + bits word 20 1 * 2 ^ 11 + bits word 21 10 * 2 ^ 1)

-- opcode 0x63
unfoldable pub branch : ℕ → ℕ → ℕ → ℤ → Option Instr
branch funct3 rs1 rs2 offset =
    if funct3 == 0x0 then Some (Beq rs1 rs2 offset)
    else if funct3 == 0x1 then Some (Bne rs1 rs2 offset)
    else if funct3 == 0x4 then Some (Blt rs1 rs2 offset)
    else if funct3 == 0x5 then Some (Bge rs1 rs2 offset)
    else if funct3 == 0x6 then Some (Bltu rs1 rs2 offset)
    else if funct3 == 0x7 then Some (Bgeu rs1 rs2 offset)
    else None

-- opcode 0x03
unfoldable pub load : ℕ → ℕ → ℕ → ℤ → Option Instr
load funct3 rd rs1 imm =
    if funct3 == 0x0 then Some (Lb rd rs1 imm)
    else if funct3 == 0x1 then Some (Lh rd rs1 imm)
    else if funct3 == 0x2 then Some (Lw rd rs1 imm)
    else if funct3 == 0x3 then Some (Ld rd rs1 imm)
    else if funct3 == 0x4 then Some (Lbu rd rs1 imm)
    else if funct3 == 0x5 then Some (Lhu rd rs1 imm)
    else if funct3 == 0x6 then Some (Lwu rd rs1 imm)
    else None

-- opcode 0x23
unfoldable pub store : ℕ → ℕ → ℕ → ℤ → Option Instr
store funct3 rs1 rs2 imm =
    if funct3 == 0x0 then Some (Sb rs1 rs2 imm)
    else if funct3 == 0x1 then Some (Sh rs1 rs2 imm)
    else if funct3 == 0x2 then Some (Sw rs1 rs2 imm)
    else if funct3 == 0x3 then Some (Sd rs1 rs2 imm)
    else None

-- opcode 0x13: with an immediate, or a shift by 6 bits of amount
unfoldable pub op_imm : ℕ → ℕ → ℕ → ℕ → ℤ → ℕ → Option Instr
op_imm funct3 funct6 rd rs1 imm shamt =
    if funct3 == 0x0 then Some (Addi rd rs1 imm)
    else if funct3 == 0x1 then (if funct6 == 0x00 then Some (Slli rd rs1 shamt) else None)
    else if funct3 == 0x2 then Some (Slti rd rs1 imm)
    else if funct3 == 0x3 then Some (Sltiu rd rs1 imm)
    else if funct3 == 0x4 then Some (Xori rd rs1 imm)
    else if funct3 == 0x5
    then (if funct6 == 0x00 then Some (Srli rd rs1 shamt)
    else if funct6 == 0x10 then Some (Srai rd rs1 shamt) else None)
    else if funct3 == 0x6 then Some (Ori rd rs1 imm)
    else if funct3 == 0x7 then Some (Andi rd rs1 imm)
    else None

-- opcode 0x1B: as 0x13, on 32 bits
unfoldable pub op_imm_32 : ℕ → ℕ → ℕ → ℕ → ℤ → ℕ → Option Instr
op_imm_32 funct3 funct7 rd rs1 imm shamt =
    if funct3 == 0x0 then Some (Addiw rd rs1 imm)
    else if funct3 == 0x1 then (if funct7 == 0x00 then Some (Slliw rd rs1 shamt) else None)
    else if funct3 == 0x5
    then (if funct7 == 0x00 then Some (Srliw rd rs1 shamt)
    else if funct7 == 0x20 then Some (Sraiw rd rs1 shamt) else None)
    else None

-- opcode 0x33, by funct7: the operations of the base
unfoldable pub op_base : ℕ → ℕ → ℕ → ℕ → Option Instr
op_base funct3 rd rs1 rs2 =
    if funct3 == 0x0 then Some (Add rd rs1 rs2)
    else if funct3 == 0x1 then Some (Sll rd rs1 rs2)
    else if funct3 == 0x2 then Some (Slt rd rs1 rs2)
    else if funct3 == 0x3 then Some (Sltu rd rs1 rs2)
    else if funct3 == 0x4 then Some (Xor rd rs1 rs2)
    else if funct3 == 0x5 then Some (Srl rd rs1 rs2)
    else if funct3 == 0x6 then Some (Or rd rs1 rs2)
    else if funct3 == 0x7 then Some (And rd rs1 rs2)
    else None

-- the operations that bit 30 turns into others
unfoldable pub op_other : ℕ → ℕ → ℕ → ℕ → Option Instr
op_other funct3 rd rs1 rs2 =
    if funct3 == 0x0 then Some (Sub rd rs1 rs2)
    else if funct3 == 0x5 then Some (Sra rd rs1 rs2)
    else None

-- the operations of the M extension
unfoldable pub op_mul : ℕ → ℕ → ℕ → ℕ → Option Instr
op_mul funct3 rd rs1 rs2 =
    if funct3 == 0x0 then Some (Mul rd rs1 rs2)
    else if funct3 == 0x1 then Some (Mulh rd rs1 rs2)
    else if funct3 == 0x2 then Some (Mulhsu rd rs1 rs2)
    else if funct3 == 0x3 then Some (Mulhu rd rs1 rs2)
    else if funct3 == 0x4 then Some (Div rd rs1 rs2)
    else if funct3 == 0x5 then Some (Divu rd rs1 rs2)
    else if funct3 == 0x6 then Some (Rem rd rs1 rs2)
    else if funct3 == 0x7 then Some (Remu rd rs1 rs2)
    else None

-- opcode 0x33
unfoldable pub op : ℕ → ℕ → ℕ → ℕ → ℕ → Option Instr
op funct3 funct7 rd rs1 rs2 =
    if funct7 == 0x00 then op_base funct3 rd rs1 rs2
    else if funct7 == 0x20 then op_other funct3 rd rs1 rs2
    else if funct7 == 0x01 then op_mul funct3 rd rs1 rs2
    else None

-- the same three, on 32 bits
unfoldable pub op_32_base : ℕ → ℕ → ℕ → ℕ → Option Instr
op_32_base funct3 rd rs1 rs2 =
    if funct3 == 0x0 then Some (Addw rd rs1 rs2)
    else if funct3 == 0x1 then Some (Sllw rd rs1 rs2)
    else if funct3 == 0x5 then Some (Srlw rd rs1 rs2)
    else None

unfoldable pub op_32_other : ℕ → ℕ → ℕ → ℕ → Option Instr
op_32_other funct3 rd rs1 rs2 =
    if funct3 == 0x0 then Some (Subw rd rs1 rs2)
    else if funct3 == 0x5 then Some (Sraw rd rs1 rs2)
    else None

unfoldable pub op_32_mul : ℕ → ℕ → ℕ → ℕ → Option Instr
op_32_mul funct3 rd rs1 rs2 =
    if funct3 == 0x0 then Some (Mulw rd rs1 rs2)
    else if funct3 == 0x4 then Some (Divw rd rs1 rs2)
    else if funct3 == 0x5 then Some (Divuw rd rs1 rs2)
    else if funct3 == 0x6 then Some (Remw rd rs1 rs2)
    else if funct3 == 0x7 then Some (Remuw rd rs1 rs2)
    else None

-- opcode 0x3B
unfoldable pub op_32 : ℕ → ℕ → ℕ → ℕ → ℕ → Option Instr
op_32 funct3 funct7 rd rs1 rs2 =
    if funct7 == 0x00 then op_32_base funct3 rd rs1 rs2
    else if funct7 == 0x20 then op_32_other funct3 rd rs1 rs2
    else if funct7 == 0x01 then op_32_mul funct3 rd rs1 rs2
    else None

-- opcode 0x67
unfoldable pub jump_register : ℕ → ℕ → ℕ → ℤ → Option Instr
jump_register funct3 rd rs1 imm = if funct3 == 0x0 then Some (Jalr rd rs1 imm) else None

-- opcode 0x0F
unfoldable pub misc_mem : ℕ → ℕ → ℕ → ℕ → ℕ → ℕ → Option Instr
misc_mem funct3 fm pred succ rs1 rd =
    if funct3 == 0x0 then Some (Fence fm pred succ rs1 rd) else None

-- opcode 0x73: two whole words
unfoldable pub system : ℕ → Option Instr
system word =
    if word == 0x00000073 then Some Ecall else if word == 0x00100073 then Some Ebreak else None

-- the instruction that has the word
unfoldable pub decoded : ℕ → Option Instr
decoded word =
    let opcode = opcode_of word in
    let funct3 = funct3_of word in
    let rd = rd_of word in
    let rs1 = rs1_of word in
    let rs2 = rs2_of word in
    if opcode == 0x03 then load funct3 rd rs1 (i_imm word)
    else if opcode == 0x0F
    then misc_mem funct3 (bits word 28 4) (bits word 24 4) (bits word 20 4) rs1 rd
    else if opcode == 0x13 then op_imm funct3 (funct6_of word) rd rs1 (i_imm word) (shamt64_of word)
    else if opcode == 0x17 then Some (Auipc rd (u_imm word))
    else if opcode == 0x1B
    then op_imm_32 funct3 (funct7_of word) rd rs1 (i_imm word) (shamt32_of word)
    else if opcode == 0x23 then store funct3 rs1 rs2 (s_imm word)
    else if opcode == 0x33 then op funct3 (funct7_of word) rd rs1 rs2
    else if opcode == 0x37 then Some (Lui rd (u_imm word))
    else if opcode == 0x3B then op_32 funct3 (funct7_of word) rd rs1 rs2
    else if opcode == 0x63 then branch funct3 rs1 rs2 (b_imm word)
    else if opcode == 0x67 then jump_register funct3 rd rs1 (i_imm word)
    else if opcode == 0x6F then Some (Jal rd (j_imm word))
    else if opcode == 0x73 then system word
    else None
