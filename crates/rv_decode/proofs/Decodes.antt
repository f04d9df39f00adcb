-- Each instruction is read back from its word.
use Rattle.std.proofs.Common.{◌≡◌, ℕ, ◌%◌, ◌^◌, ◌<◌, Some, refl, subst, arith}
use Rattle.rv_decode.specs.declared.instr.Instr.{Instr}
use Rattle.rv_decode.specs.declared.instr.Instr.TheVariants.{Lui, Auipc, Jal, Jalr, Beq, Bne, Blt, Bge, Bltu, Bgeu, Lb, Lh, Lw, Ld, Lbu, Lhu, Lwu, Sb, Sh, Sw, Sd, Addi, Slti, Sltiu, Xori, Ori, Andi, Slli, Srli, Srai, Add, Sub, Sll, Slt, Sltu, Xor, Srl, Sra, Or, And, Addiw, Slliw, Srliw, Sraiw, Addw, Subw, Sllw, Srlw, Sraw, Fence, Ecall, Ebreak, Mul, Mulh, Mulhsu, Mulhu, Div, Divu, Rem, Remu, Mulw, Divw, Divuw, Remw, Remuw}
use Rattle.rv_decode.specs.Encoding.{encoding}
use Rattle.rv_decode.specs.Decoding.{branch, load, store, op_imm, op_imm_32, op, op_base, op_other, op_mul, op_32, op_32_base, op_32_other, op_32_mul, jump_register, misc_mem, system, decoded}
use Rattle.rv_decode.proofs.ReadBack.{low_bits, r_read, i_read, s_read, b_read, u_read, j_read, shift64_read, shift32_read, fence_read}

-- the word is one of 32 bits that decodes to the instruction
pub record IsWordOf (i : Instr) (word : ℕ) : Type 0 where
  pub decodes : decoded word ≡ Some i
  pub small : word < 2 ^ 32
  pub low : word % 4 ≡ 3

ecall_is_read : IsWordOf Ecall 0x00000073
unfolding system decoded
ecall_is_read = record { decodes = refl; small = omega arith; low = refl }

ebreak_is_read : IsWordOf Ebreak 0x00100073
unfolding system decoded
ebreak_is_read = record { decodes = refl; small = omega arith; low = refl }

pub is_word_of : (i : Instr) (word : ℕ) → encoding i ≡ Some word → IsWordOf i word
unfolding branch load store op_imm op_imm_32 op op_base op_other op_mul op_32 op_32_base op_32_other op_32_mul jump_register misc_mem decoded
is_word_of (Lui rd imm) word given =
    let at = u_read 0x37 rd imm word refl given in record { decodes = rw (at.0, at.1, at.2) refl; small = at.3; low = low_bits 0x37 word at.0 refl }
is_word_of (Auipc rd imm) word given =
    let at = u_read 0x17 rd imm word refl given in record { decodes = rw (at.0, at.1, at.2) refl; small = at.3; low = low_bits 0x17 word at.0 refl }
is_word_of (Jal rd offset) word given =
    let at = j_read 0x6F rd offset word refl given in record { decodes = rw (at.0, at.1, at.2) refl; small = at.3; low = low_bits 0x6F word at.0 refl }
is_word_of (Jalr rd rs1 imm) word given =
    let at = i_read 0x67 0x0 rd rs1 imm word refl given in record { decodes = rw (at.0, at.1, at.2, at.3, at.4) refl; small = at.5; low = low_bits 0x67 word at.0 refl }
is_word_of (Beq rs1 rs2 offset) word given =
    let at = b_read 0x63 0x0 rs1 rs2 offset word refl given in record { decodes = rw (at.0, at.1, at.2, at.3, at.4) refl; small = at.5; low = low_bits 0x63 word at.0 refl }
is_word_of (Bne rs1 rs2 offset) word given =
    let at = b_read 0x63 0x1 rs1 rs2 offset word refl given in record { decodes = rw (at.0, at.1, at.2, at.3, at.4) refl; small = at.5; low = low_bits 0x63 word at.0 refl }
is_word_of (Blt rs1 rs2 offset) word given =
    let at = b_read 0x63 0x4 rs1 rs2 offset word refl given in record { decodes = rw (at.0, at.1, at.2, at.3, at.4) refl; small = at.5; low = low_bits 0x63 word at.0 refl }
is_word_of (Bge rs1 rs2 offset) word given =
    let at = b_read 0x63 0x5 rs1 rs2 offset word refl given in record { decodes = rw (at.0, at.1, at.2, at.3, at.4) refl; small = at.5; low = low_bits 0x63 word at.0 refl }
is_word_of (Bltu rs1 rs2 offset) word given =
    let at = b_read 0x63 0x6 rs1 rs2 offset word refl given in record { decodes = rw (at.0, at.1, at.2, at.3, at.4) refl; small = at.5; low = low_bits 0x63 word at.0 refl }
is_word_of (Bgeu rs1 rs2 offset) word given =
    let at = b_read 0x63 0x7 rs1 rs2 offset word refl given in record { decodes = rw (at.0, at.1, at.2, at.3, at.4) refl; small = at.5; low = low_bits 0x63 word at.0 refl }
is_word_of (Lb rd rs1 imm) word given =
    let at = i_read 0x03 0x0 rd rs1 imm word refl given in record { decodes = rw (at.0, at.1, at.2, at.3, at.4) refl; small = at.5; low = low_bits 0x03 word at.0 refl }
is_word_of (Lh rd rs1 imm) word given =
    let at = i_read 0x03 0x1 rd rs1 imm word refl given in record { decodes = rw (at.0, at.1, at.2, at.3, at.4) refl; small = at.5; low = low_bits 0x03 word at.0 refl }
is_word_of (Lw rd rs1 imm) word given =
    let at = i_read 0x03 0x2 rd rs1 imm word refl given in record { decodes = rw (at.0, at.1, at.2, at.3, at.4) refl; small = at.5; low = low_bits 0x03 word at.0 refl }
is_word_of (Ld rd rs1 imm) word given =
    let at = i_read 0x03 0x3 rd rs1 imm word refl given in record { decodes = rw (at.0, at.1, at.2, at.3, at.4) refl; small = at.5; low = low_bits 0x03 word at.0 refl }
is_word_of (Lbu rd rs1 imm) word given =
    let at = i_read 0x03 0x4 rd rs1 imm word refl given in record { decodes = rw (at.0, at.1, at.2, at.3, at.4) refl; small = at.5; low = low_bits 0x03 word at.0 refl }
is_word_of (Lhu rd rs1 imm) word given =
    let at = i_read 0x03 0x5 rd rs1 imm word refl given in record { decodes = rw (at.0, at.1, at.2, at.3, at.4) refl; small = at.5; low = low_bits 0x03 word at.0 refl }
is_word_of (Lwu rd rs1 imm) word given =
    let at = i_read 0x03 0x6 rd rs1 imm word refl given in record { decodes = rw (at.0, at.1, at.2, at.3, at.4) refl; small = at.5; low = low_bits 0x03 word at.0 refl }
is_word_of (Sb rs1 rs2 imm) word given =
    let at = s_read 0x23 0x0 rs1 rs2 imm word refl given in record { decodes = rw (at.0, at.1, at.2, at.3, at.4) refl; small = at.5; low = low_bits 0x23 word at.0 refl }
is_word_of (Sh rs1 rs2 imm) word given =
    let at = s_read 0x23 0x1 rs1 rs2 imm word refl given in record { decodes = rw (at.0, at.1, at.2, at.3, at.4) refl; small = at.5; low = low_bits 0x23 word at.0 refl }
is_word_of (Sw rs1 rs2 imm) word given =
    let at = s_read 0x23 0x2 rs1 rs2 imm word refl given in record { decodes = rw (at.0, at.1, at.2, at.3, at.4) refl; small = at.5; low = low_bits 0x23 word at.0 refl }
is_word_of (Sd rs1 rs2 imm) word given =
    let at = s_read 0x23 0x3 rs1 rs2 imm word refl given in record { decodes = rw (at.0, at.1, at.2, at.3, at.4) refl; small = at.5; low = low_bits 0x23 word at.0 refl }
is_word_of (Addi rd rs1 imm) word given =
    let at = i_read 0x13 0x0 rd rs1 imm word refl given in record { decodes = rw (at.0, at.1, at.2, at.3, at.4) refl; small = at.5; low = low_bits 0x13 word at.0 refl }
is_word_of (Slti rd rs1 imm) word given =
    let at = i_read 0x13 0x2 rd rs1 imm word refl given in record { decodes = rw (at.0, at.1, at.2, at.3, at.4) refl; small = at.5; low = low_bits 0x13 word at.0 refl }
is_word_of (Sltiu rd rs1 imm) word given =
    let at = i_read 0x13 0x3 rd rs1 imm word refl given in record { decodes = rw (at.0, at.1, at.2, at.3, at.4) refl; small = at.5; low = low_bits 0x13 word at.0 refl }
is_word_of (Xori rd rs1 imm) word given =
    let at = i_read 0x13 0x4 rd rs1 imm word refl given in record { decodes = rw (at.0, at.1, at.2, at.3, at.4) refl; small = at.5; low = low_bits 0x13 word at.0 refl }
is_word_of (Ori rd rs1 imm) word given =
    let at = i_read 0x13 0x6 rd rs1 imm word refl given in record { decodes = rw (at.0, at.1, at.2, at.3, at.4) refl; small = at.5; low = low_bits 0x13 word at.0 refl }
is_word_of (Andi rd rs1 imm) word given =
    let at = i_read 0x13 0x7 rd rs1 imm word refl given in record { decodes = rw (at.0, at.1, at.2, at.3, at.4) refl; small = at.5; low = low_bits 0x13 word at.0 refl }
is_word_of (Slli rd rs1 shamt) word given =
    let at = shift64_read 0x13 0x1 0x00 rd rs1 shamt word refl given in record { decodes = rw (at.0, at.1, at.2, at.3, at.4, at.5) refl; small = at.6; low = low_bits 0x13 word at.0 refl }
is_word_of (Srli rd rs1 shamt) word given =
    let at = shift64_read 0x13 0x5 0x00 rd rs1 shamt word refl given in record { decodes = rw (at.0, at.1, at.2, at.3, at.4, at.5) refl; small = at.6; low = low_bits 0x13 word at.0 refl }
is_word_of (Srai rd rs1 shamt) word given =
    let at = shift64_read 0x13 0x5 0x10 rd rs1 shamt word refl given in record { decodes = rw (at.0, at.1, at.2, at.3, at.4, at.5) refl; small = at.6; low = low_bits 0x13 word at.0 refl }
is_word_of (Add rd rs1 rs2) word given =
    let at = r_read 0x33 0x0 0x00 rd rs1 rs2 word refl given in record { decodes = rw (at.0, at.1, at.2, at.3, at.4, at.5) refl; small = at.6; low = low_bits 0x33 word at.0 refl }
is_word_of (Sub rd rs1 rs2) word given =
    let at = r_read 0x33 0x0 0x20 rd rs1 rs2 word refl given in record { decodes = rw (at.0, at.1, at.2, at.3, at.4, at.5) refl; small = at.6; low = low_bits 0x33 word at.0 refl }
is_word_of (Sll rd rs1 rs2) word given =
    let at = r_read 0x33 0x1 0x00 rd rs1 rs2 word refl given in record { decodes = rw (at.0, at.1, at.2, at.3, at.4, at.5) refl; small = at.6; low = low_bits 0x33 word at.0 refl }
is_word_of (Slt rd rs1 rs2) word given =
    let at = r_read 0x33 0x2 0x00 rd rs1 rs2 word refl given in record { decodes = rw (at.0, at.1, at.2, at.3, at.4, at.5) refl; small = at.6; low = low_bits 0x33 word at.0 refl }
is_word_of (Sltu rd rs1 rs2) word given =
    let at = r_read 0x33 0x3 0x00 rd rs1 rs2 word refl given in record { decodes = rw (at.0, at.1, at.2, at.3, at.4, at.5) refl; small = at.6; low = low_bits 0x33 word at.0 refl }
is_word_of (Xor rd rs1 rs2) word given =
    let at = r_read 0x33 0x4 0x00 rd rs1 rs2 word refl given in record { decodes = rw (at.0, at.1, at.2, at.3, at.4, at.5) refl; small = at.6; low = low_bits 0x33 word at.0 refl }
is_word_of (Srl rd rs1 rs2) word given =
    let at = r_read 0x33 0x5 0x00 rd rs1 rs2 word refl given in record { decodes = rw (at.0, at.1, at.2, at.3, at.4, at.5) refl; small = at.6; low = low_bits 0x33 word at.0 refl }
is_word_of (Sra rd rs1 rs2) word given =
    let at = r_read 0x33 0x5 0x20 rd rs1 rs2 word refl given in record { decodes = rw (at.0, at.1, at.2, at.3, at.4, at.5) refl; small = at.6; low = low_bits 0x33 word at.0 refl }
is_word_of (Or rd rs1 rs2) word given =
    let at = r_read 0x33 0x6 0x00 rd rs1 rs2 word refl given in record { decodes = rw (at.0, at.1, at.2, at.3, at.4, at.5) refl; small = at.6; low = low_bits 0x33 word at.0 refl }
is_word_of (And rd rs1 rs2) word given =
    let at = r_read 0x33 0x7 0x00 rd rs1 rs2 word refl given in record { decodes = rw (at.0, at.1, at.2, at.3, at.4, at.5) refl; small = at.6; low = low_bits 0x33 word at.0 refl }
is_word_of (Addiw rd rs1 imm) word given =
    let at = i_read 0x1B 0x0 rd rs1 imm word refl given in record { decodes = rw (at.0, at.1, at.2, at.3, at.4) refl; small = at.5; low = low_bits 0x1B word at.0 refl }
is_word_of (Slliw rd rs1 shamt) word given =
    let at = shift32_read 0x1B 0x1 0x00 rd rs1 shamt word refl given in record { decodes = rw (at.0, at.1, at.2, at.3, at.4, at.5) refl; small = at.6; low = low_bits 0x1B word at.0 refl }
is_word_of (Srliw rd rs1 shamt) word given =
    let at = shift32_read 0x1B 0x5 0x00 rd rs1 shamt word refl given in record { decodes = rw (at.0, at.1, at.2, at.3, at.4, at.5) refl; small = at.6; low = low_bits 0x1B word at.0 refl }
is_word_of (Sraiw rd rs1 shamt) word given =
    let at = shift32_read 0x1B 0x5 0x20 rd rs1 shamt word refl given in record { decodes = rw (at.0, at.1, at.2, at.3, at.4, at.5) refl; small = at.6; low = low_bits 0x1B word at.0 refl }
is_word_of (Addw rd rs1 rs2) word given =
    let at = r_read 0x3B 0x0 0x00 rd rs1 rs2 word refl given in record { decodes = rw (at.0, at.1, at.2, at.3, at.4, at.5) refl; small = at.6; low = low_bits 0x3B word at.0 refl }
is_word_of (Subw rd rs1 rs2) word given =
    let at = r_read 0x3B 0x0 0x20 rd rs1 rs2 word refl given in record { decodes = rw (at.0, at.1, at.2, at.3, at.4, at.5) refl; small = at.6; low = low_bits 0x3B word at.0 refl }
is_word_of (Sllw rd rs1 rs2) word given =
    let at = r_read 0x3B 0x1 0x00 rd rs1 rs2 word refl given in record { decodes = rw (at.0, at.1, at.2, at.3, at.4, at.5) refl; small = at.6; low = low_bits 0x3B word at.0 refl }
is_word_of (Srlw rd rs1 rs2) word given =
    let at = r_read 0x3B 0x5 0x00 rd rs1 rs2 word refl given in record { decodes = rw (at.0, at.1, at.2, at.3, at.4, at.5) refl; small = at.6; low = low_bits 0x3B word at.0 refl }
is_word_of (Sraw rd rs1 rs2) word given =
    let at = r_read 0x3B 0x5 0x20 rd rs1 rs2 word refl given in record { decodes = rw (at.0, at.1, at.2, at.3, at.4, at.5) refl; small = at.6; low = low_bits 0x3B word at.0 refl }
is_word_of (Fence fm pred succ rs1 rd) word given =
    let at = fence_read 0x0F 0x0 fm pred succ rs1 rd word refl given in record { decodes = rw (at.0, at.1, at.2, at.3, at.4, at.5, at.6) refl; small = at.7; low = low_bits 0x0F word at.0 refl }
is_word_of Ecall word given = let same : 0x00000073 ≡ word = cc in subst (IsWordOf Ecall) same ecall_is_read
is_word_of Ebreak word given = let same : 0x00100073 ≡ word = cc in subst (IsWordOf Ebreak) same ebreak_is_read
is_word_of (Mul rd rs1 rs2) word given =
    let at = r_read 0x33 0x0 0x01 rd rs1 rs2 word refl given in record { decodes = rw (at.0, at.1, at.2, at.3, at.4, at.5) refl; small = at.6; low = low_bits 0x33 word at.0 refl }
is_word_of (Mulh rd rs1 rs2) word given =
    let at = r_read 0x33 0x1 0x01 rd rs1 rs2 word refl given in record { decodes = rw (at.0, at.1, at.2, at.3, at.4, at.5) refl; small = at.6; low = low_bits 0x33 word at.0 refl }
is_word_of (Mulhsu rd rs1 rs2) word given =
    let at = r_read 0x33 0x2 0x01 rd rs1 rs2 word refl given in record { decodes = rw (at.0, at.1, at.2, at.3, at.4, at.5) refl; small = at.6; low = low_bits 0x33 word at.0 refl }
is_word_of (Mulhu rd rs1 rs2) word given =
    let at = r_read 0x33 0x3 0x01 rd rs1 rs2 word refl given in record { decodes = rw (at.0, at.1, at.2, at.3, at.4, at.5) refl; small = at.6; low = low_bits 0x33 word at.0 refl }
is_word_of (Div rd rs1 rs2) word given =
    let at = r_read 0x33 0x4 0x01 rd rs1 rs2 word refl given in record { decodes = rw (at.0, at.1, at.2, at.3, at.4, at.5) refl; small = at.6; low = low_bits 0x33 word at.0 refl }
is_word_of (Divu rd rs1 rs2) word given =
    let at = r_read 0x33 0x5 0x01 rd rs1 rs2 word refl given in record { decodes = rw (at.0, at.1, at.2, at.3, at.4, at.5) refl; small = at.6; low = low_bits 0x33 word at.0 refl }
is_word_of (Rem rd rs1 rs2) word given =
    let at = r_read 0x33 0x6 0x01 rd rs1 rs2 word refl given in record { decodes = rw (at.0, at.1, at.2, at.3, at.4, at.5) refl; small = at.6; low = low_bits 0x33 word at.0 refl }
is_word_of (Remu rd rs1 rs2) word given =
    let at = r_read 0x33 0x7 0x01 rd rs1 rs2 word refl given in record { decodes = rw (at.0, at.1, at.2, at.3, at.4, at.5) refl; small = at.6; low = low_bits 0x33 word at.0 refl }
is_word_of (Mulw rd rs1 rs2) word given =
    let at = r_read 0x3B 0x0 0x01 rd rs1 rs2 word refl given in record { decodes = rw (at.0, at.1, at.2, at.3, at.4, at.5) refl; small = at.6; low = low_bits 0x3B word at.0 refl }
is_word_of (Divw rd rs1 rs2) word given =
    let at = r_read 0x3B 0x4 0x01 rd rs1 rs2 word refl given in record { decodes = rw (at.0, at.1, at.2, at.3, at.4, at.5) refl; small = at.6; low = low_bits 0x3B word at.0 refl }
is_word_of (Divuw rd rs1 rs2) word given =
    let at = r_read 0x3B 0x5 0x01 rd rs1 rs2 word refl given in record { decodes = rw (at.0, at.1, at.2, at.3, at.4, at.5) refl; small = at.6; low = low_bits 0x3B word at.0 refl }
is_word_of (Remw rd rs1 rs2) word given =
    let at = r_read 0x3B 0x6 0x01 rd rs1 rs2 word refl given in record { decodes = rw (at.0, at.1, at.2, at.3, at.4, at.5) refl; small = at.6; low = low_bits 0x3B word at.0 refl }
is_word_of (Remuw rd rs1 rs2) word given =
    let at = r_read 0x3B 0x7 0x01 rd rs1 rs2 word refl given in record { decodes = rw (at.0, at.1, at.2, at.3, at.4, at.5) refl; small = at.6; low = low_bits 0x3B word at.0 refl }
