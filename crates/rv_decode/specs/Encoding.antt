-- The words of the instructions, as the manual lists them (RISC-V unprivileged ISA, RV32/64G Instruction Set Listings:
-- RV32I, RV64I, RV32M, RV64M). Behind the format stand opcode, funct3, and funct7 or funct6.
use Rattle.std.specs.Prelude.{ℕ, Option, Some}
use Rattle.rv_decode.specs.declared.instr.Instr.{Instr}
use Rattle.rv_decode.specs.declared.instr.Instr.TheVariants.{Lui, Auipc, Jal, Jalr, Beq, Bne, Blt, Bge, Bltu, Bgeu, Lb, Lh, Lw, Ld, Lbu, Lhu, Lwu, Sb, Sh, Sw, Sd, Addi, Slti, Sltiu, Xori, Ori, Andi, Slli, Srli, Srai, Add, Sub, Sll, Slt, Sltu, Xor, Srl, Sra, Or, And, Addiw, Slliw, Srliw, Sraiw, Addw, Subw, Sllw, Srlw, Sraw, Fence, Ecall, Ebreak, Mul, Mulh, Mulhsu, Mulhu, Div, Divu, Rem, Remu, Mulw, Divw, Divuw, Remw, Remuw}
use Rattle.rv_decode.specs.Formats.{r_type, i_type, s_type, b_type, u_type, j_type, shift64_type, shift32_type, fence_type}

-- the word of an instruction, where each field is in its range
abbrev pub encoding : Instr → Option ℕ
encoding (Lui rd imm) = u_type 0x37 rd imm
encoding (Auipc rd imm) = u_type 0x17 rd imm
encoding (Jal rd offset) = j_type 0x6F rd offset
encoding (Jalr rd rs1 imm) = i_type 0x67 0x0 rd rs1 imm
encoding (Beq rs1 rs2 offset) = b_type 0x63 0x0 rs1 rs2 offset
encoding (Bne rs1 rs2 offset) = b_type 0x63 0x1 rs1 rs2 offset
encoding (Blt rs1 rs2 offset) = b_type 0x63 0x4 rs1 rs2 offset
encoding (Bge rs1 rs2 offset) = b_type 0x63 0x5 rs1 rs2 offset
encoding (Bltu rs1 rs2 offset) = b_type 0x63 0x6 rs1 rs2 offset
encoding (Bgeu rs1 rs2 offset) = b_type 0x63 0x7 rs1 rs2 offset
encoding (Lb rd rs1 imm) = i_type 0x03 0x0 rd rs1 imm
encoding (Lh rd rs1 imm) = i_type 0x03 0x1 rd rs1 imm
encoding (Lw rd rs1 imm) = i_type 0x03 0x2 rd rs1 imm
encoding (Ld rd rs1 imm) = i_type 0x03 0x3 rd rs1 imm
encoding (Lbu rd rs1 imm) = i_type 0x03 0x4 rd rs1 imm
encoding (Lhu rd rs1 imm) = i_type 0x03 0x5 rd rs1 imm
encoding (Lwu rd rs1 imm) = i_type 0x03 0x6 rd rs1 imm
encoding (Sb rs1 rs2 imm) = s_type 0x23 0x0 rs1 rs2 imm
encoding (Sh rs1 rs2 imm) = s_type 0x23 0x1 rs1 rs2 imm
encoding (Sw rs1 rs2 imm) = s_type 0x23 0x2 rs1 rs2 imm
encoding (Sd rs1 rs2 imm) = s_type 0x23 0x3 rs1 rs2 imm
encoding (Addi rd rs1 imm) = i_type 0x13 0x0 rd rs1 imm
encoding (Slti rd rs1 imm) = i_type 0x13 0x2 rd rs1 imm
encoding (Sltiu rd rs1 imm) = i_type 0x13 0x3 rd rs1 imm
encoding (Xori rd rs1 imm) = i_type 0x13 0x4 rd rs1 imm
encoding (Ori rd rs1 imm) = i_type 0x13 0x6 rd rs1 imm
encoding (Andi rd rs1 imm) = i_type 0x13 0x7 rd rs1 imm
encoding (Slli rd rs1 shamt) = shift64_type 0x13 0x1 0x00 rd rs1 shamt
encoding (Srli rd rs1 shamt) = shift64_type 0x13 0x5 0x00 rd rs1 shamt
encoding (Srai rd rs1 shamt) = shift64_type 0x13 0x5 0x10 rd rs1 shamt
encoding (Add rd rs1 rs2) = r_type 0x33 0x0 0x00 rd rs1 rs2
encoding (Sub rd rs1 rs2) = r_type 0x33 0x0 0x20 rd rs1 rs2
encoding (Sll rd rs1 rs2) = r_type 0x33 0x1 0x00 rd rs1 rs2
encoding (Slt rd rs1 rs2) = r_type 0x33 0x2 0x00 rd rs1 rs2
encoding (Sltu rd rs1 rs2) = r_type 0x33 0x3 0x00 rd rs1 rs2
encoding (Xor rd rs1 rs2) = r_type 0x33 0x4 0x00 rd rs1 rs2
encoding (Srl rd rs1 rs2) = r_type 0x33 0x5 0x00 rd rs1 rs2
encoding (Sra rd rs1 rs2) = r_type 0x33 0x5 0x20 rd rs1 rs2
encoding (Or rd rs1 rs2) = r_type 0x33 0x6 0x00 rd rs1 rs2
encoding (And rd rs1 rs2) = r_type 0x33 0x7 0x00 rd rs1 rs2
encoding (Addiw rd rs1 imm) = i_type 0x1B 0x0 rd rs1 imm
encoding (Slliw rd rs1 shamt) = shift32_type 0x1B 0x1 0x00 rd rs1 shamt
encoding (Srliw rd rs1 shamt) = shift32_type 0x1B 0x5 0x00 rd rs1 shamt
encoding (Sraiw rd rs1 shamt) = shift32_type 0x1B 0x5 0x20 rd rs1 shamt
encoding (Addw rd rs1 rs2) = r_type 0x3B 0x0 0x00 rd rs1 rs2
encoding (Subw rd rs1 rs2) = r_type 0x3B 0x0 0x20 rd rs1 rs2
encoding (Sllw rd rs1 rs2) = r_type 0x3B 0x1 0x00 rd rs1 rs2
encoding (Srlw rd rs1 rs2) = r_type 0x3B 0x5 0x00 rd rs1 rs2
encoding (Sraw rd rs1 rs2) = r_type 0x3B 0x5 0x20 rd rs1 rs2
encoding (Fence fm pred succ rs1 rd) = fence_type 0x0F 0x0 fm pred succ rs1 rd
encoding Ecall = Some 0x00000073
encoding Ebreak = Some 0x00100073
encoding (Mul rd rs1 rs2) = r_type 0x33 0x0 0x01 rd rs1 rs2
encoding (Mulh rd rs1 rs2) = r_type 0x33 0x1 0x01 rd rs1 rs2
encoding (Mulhsu rd rs1 rs2) = r_type 0x33 0x2 0x01 rd rs1 rs2
encoding (Mulhu rd rs1 rs2) = r_type 0x33 0x3 0x01 rd rs1 rs2
encoding (Div rd rs1 rs2) = r_type 0x33 0x4 0x01 rd rs1 rs2
encoding (Divu rd rs1 rs2) = r_type 0x33 0x5 0x01 rd rs1 rs2
encoding (Rem rd rs1 rs2) = r_type 0x33 0x6 0x01 rd rs1 rs2
encoding (Remu rd rs1 rs2) = r_type 0x33 0x7 0x01 rd rs1 rs2
encoding (Mulw rd rs1 rs2) = r_type 0x3B 0x0 0x01 rd rs1 rs2
encoding (Divw rd rs1 rs2) = r_type 0x3B 0x4 0x01 rd rs1 rs2
encoding (Divuw rd rs1 rs2) = r_type 0x3B 0x5 0x01 rd rs1 rs2
encoding (Remw rd rs1 rs2) = r_type 0x3B 0x6 0x01 rd rs1 rs2
encoding (Remuw rd rs1 rs2) = r_type 0x3B 0x7 0x01 rd rs1 rs2
