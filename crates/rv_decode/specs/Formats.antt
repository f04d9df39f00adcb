-- The formats of a 32-bit instruction (RISC-V unprivileged ISA, Base Instruction Formats and Immediate Encoding Variants):
-- the word of the fields, each at the bit where it begins, and no word where a field's bits don't hold its value.
use Rattle.std.specs.Prelude.{ℕ, ◌+◌, ◌*◌, ◌^◌, Bool, ◌&&◌, nat_lt, ℤ, Option, Some, None, if◌then◌else◌}
use Rattle.rv_decode.specs.Fields.{bits, twos_complement, holds, is_even, is_register}

abbrev pub word_if : Bool → ℕ → Option ℕ
word_if fits word = if fits then Some word else None

-- funct7 | rs2 | rs1 | funct3 | rd | opcode
unfoldable pub r_type : ℕ → ℕ → ℕ → ℕ → ℕ → ℕ → Option ℕ
r_type opcode funct3 funct7 rd rs1 rs2 =
    word_if (is_register rd && is_register rs1 && is_register rs2)
    (funct7 * 2 ^ 25 + rs2 * 2 ^ 20 + rs1 * 2 ^ 15 + funct3 * 2 ^ 12 + rd * 2 ^ 7 + opcode)

-- imm[11:0] | rs1 | funct3 | rd | opcode
unfoldable pub i_type : ℕ → ℕ → ℕ → ℕ → ℤ → Option ℕ
i_type opcode funct3 rd rs1 value =
    word_if (is_register rd && is_register rs1 && holds 12 value)
    (twos_complement 12 value * 2 ^ 20 + rs1 * 2 ^ 15 + funct3 * 2 ^ 12 + rd * 2 ^ 7 + opcode)

-- imm[11:5] | rs2 | rs1 | funct3 | imm[4:0] | opcode
unfoldable pub s_type : ℕ → ℕ → ℕ → ℕ → ℤ → Option ℕ
s_type opcode funct3 rs1 rs2 value =
    let imm = twos_complement 12 value in
    word_if (is_register rs1 && is_register rs2 && holds 12 value)
    (bits imm 5 7 * 2 ^ 25 + rs2 * 2 ^ 20 + rs1 * 2 ^ 15 + funct3 * 2 ^ 12
    + bits imm 0 5 * 2 ^ 7 + opcode)

-- imm[12] | imm[10:5] | rs2 | rs1 | funct3 | imm[4:1] | imm[11] | opcode
unfoldable pub b_type : ℕ → ℕ → ℕ → ℕ → ℤ → Option ℕ
b_type opcode funct3 rs1 rs2 value =
    let imm = twos_complement 13 value in
    word_if (is_register rs1 && is_register rs2 && holds 13 value && is_even value)
    (bits imm 12 1 * 2 ^ 31 + bits imm 5 6 * 2 ^ 25 + rs2 * 2 ^ 20 + rs1 * 2 ^ 15 + funct3 * 2 ^ 12
    + bits imm 1 4 * 2 ^ 8 + bits imm 11 1 * 2 ^ 7 + opcode)

-- imm[31:12] | rd | opcode, where the value is the upper part alone
unfoldable pub u_type : ℕ → ℕ → ℤ → Option ℕ
u_type opcode rd value =
    word_if (is_register rd && holds 20 value)
    (twos_complement 20 value * 2 ^ 12 + rd * 2 ^ 7 + opcode)

-- imm[20] | imm[10:1] | imm[11] | imm[19:12] | rd | opcode
unfoldable pub j_type : ℕ → ℕ → ℤ → Option ℕ
j_type opcode rd value =
    let imm = twos_complement 21 value in
    word_if (is_register rd && holds 21 value && is_even value)
    (bits imm 20 1 * 2 ^ 31 + bits imm 1 10 * 2 ^ 21 + bits imm 11 1 * 2 ^ 20
    + bits imm 12 8 * 2 ^ 12
    + rd * 2 ^ 7 + opcode)

-- funct6 | shamt[5:0] | rs1 | funct3 | rd | opcode, the shifts of 64 bits
unfoldable pub shift64_type : ℕ → ℕ → ℕ → ℕ → ℕ → ℕ → Option ℕ
shift64_type opcode funct3 funct6 rd rs1 shamt =
    word_if (is_register rd && is_register rs1 && nat_lt shamt 64)
    (funct6 * 2 ^ 26 + shamt * 2 ^ 20 + rs1 * 2 ^ 15 + funct3 * 2 ^ 12 + rd * 2 ^ 7 + opcode)

-- funct7 | shamt[4:0] | rs1 | funct3 | rd | opcode, the shifts of 32 bits
unfoldable pub shift32_type : ℕ → ℕ → ℕ → ℕ → ℕ → ℕ → Option ℕ
shift32_type opcode funct3 funct7 rd rs1 shamt =
    word_if (is_register rd && is_register rs1 && nat_lt shamt 32)
    (funct7 * 2 ^ 25 + shamt * 2 ^ 20 + rs1 * 2 ^ 15 + funct3 * 2 ^ 12 + rd * 2 ^ 7 + opcode)

-- fm | pred | succ | rs1 | funct3 | rd | opcode
unfoldable pub fence_type : ℕ → ℕ → ℕ → ℕ → ℕ → ℕ → ℕ → Option ℕ
fence_type opcode funct3 fm pred succ rs1 rd =
    word_if (nat_lt fm 16 && nat_lt pred 16 && nat_lt succ 16 && is_register rs1 && is_register rd)
    (fm * 2 ^ 28 + pred * 2 ^ 24 + succ * 2 ^ 20 + rs1 * 2 ^ 15 + funct3 * 2 ^ 12
    + rd * 2 ^ 7 + opcode)
