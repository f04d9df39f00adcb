-- Each instruction is read back from its word: the fields of each format stand where they are read.
use Rattle.std.proofs.Common.{◌≡◌, ℕ, ◌+◌, ◌*◌, ◌%◌, ◌^◌, ◌<◌, ◌&&◌, nat_lt, IsTrue, Bool, true, false, ℤ, Some, refl, arith}
use Rattle.std.proofs.lemmas.Bool.Decides.{nat_tests}
use Rattle.rv_decode.specs.Fields.{bits, twos_complement, holds, is_even}
use Rattle.rv_decode.specs.Formats.{word_if, r_type, i_type, s_type, b_type, u_type, j_type, shift64_type, shift32_type, fence_type}
use Rattle.rv_decode.specs.Decoding.{opcode_of, funct3_of, funct6_of, funct7_of, rd_of, rs1_of, rs2_of, shamt64_of, shamt32_of, i_imm, s_imm, b_imm, u_imm, j_imm}
use Rattle.rv_decode.proofs.TwosComplement.{signed-twos_complement, twos_complement-lt, twos_complement-even}
use Rattle.rv_decode.proofs.Parts.{s_join, b_join, j_join}

-- a word that is given is that word, and its fields fit
given : (fits : Bool) (sum word : ℕ) → word_if fits sum ≡ Some word → (fits ≡ true) × (sum ≡ word)
given true sum word h = (refl, cc)
given false sum word h = (cc, cc)

-- the lowest two bits of a word are those of its opcode
pub low_bits : (opcode word : ℕ) → opcode_of word ≡ opcode → opcode % 4 ≡ 3 → word % 4 ≡ 3
low_bits opcode word is low = omega arith

-- an opcode and funct3 or funct7 fit
abbrev pub Fixed : ℕ → ℕ → ℕ → Type 0
Fixed opcode funct3 funct7 = IsTrue (nat_lt opcode 128 && nat_lt funct3 8 && nat_lt funct7 128)

pub r_read : (opcode funct3 funct7 rd rs1 rs2 word : ℕ) → Fixed opcode funct3 funct7 → r_type opcode funct3 funct7 rd rs1 rs2 ≡ Some word
    → (opcode_of word ≡ opcode) × (funct3_of word ≡ funct3) × (funct7_of word ≡ funct7) × (rd_of word ≡ rd) × (rs1_of word ≡ rs1) × (rs2_of word ≡ rs2) × (word < 2 ^ 32)
unfolding r_type
r_read opcode funct3 funct7 rd rs1 rs2 word fixed h =
    let both = given _ _ word h in
    let sum_is : funct7 * 2 ^ 25 + rs2 * 2 ^ 20 + rs1 * 2 ^ 15 + funct3 * 2 ^ 12 + rd * 2 ^ 7 + opcode ≡ word = both.1 in
    let ranges : (opcode < 128) × (funct3 < 8) × (funct7 < 128) × (rd < 32) × (rs1 < 32) × (rs2 < 32) = grind (arith, nat_tests, both.0, fixed) in
    (omega arith, omega arith, omega arith, omega arith, omega arith, omega arith, omega (arith, both.1))

pub shift32_read : (opcode funct3 funct7 rd rs1 shamt word : ℕ) → Fixed opcode funct3 funct7 → shift32_type opcode funct3 funct7 rd rs1 shamt ≡ Some word
    → (opcode_of word ≡ opcode) × (funct3_of word ≡ funct3) × (funct7_of word ≡ funct7) × (rd_of word ≡ rd) × (rs1_of word ≡ rs1) × (shamt32_of word ≡ shamt) × (word < 2 ^ 32)
unfolding shift32_type
shift32_read opcode funct3 funct7 rd rs1 shamt word fixed h =
    let both = given _ _ word h in
    let sum_is : funct7 * 2 ^ 25 + shamt * 2 ^ 20 + rs1 * 2 ^ 15 + funct3 * 2 ^ 12 + rd * 2 ^ 7 + opcode ≡ word = both.1 in
    let ranges : (opcode < 128) × (funct3 < 8) × (funct7 < 128) × (rd < 32) × (rs1 < 32) × (shamt < 32) = grind (arith, nat_tests, both.0, fixed) in
    (omega arith, omega arith, omega arith, omega arith, omega arith, omega arith, omega (arith, both.1))

pub shift64_read : (opcode funct3 funct6 rd rs1 shamt word : ℕ) → Fixed opcode funct3 (2 * funct6) → shift64_type opcode funct3 funct6 rd rs1 shamt ≡ Some word
    → (opcode_of word ≡ opcode) × (funct3_of word ≡ funct3) × (funct6_of word ≡ funct6) × (rd_of word ≡ rd) × (rs1_of word ≡ rs1) × (shamt64_of word ≡ shamt) × (word < 2 ^ 32)
unfolding shift64_type
shift64_read opcode funct3 funct6 rd rs1 shamt word fixed h =
    let both = given _ _ word h in
    let sum_is : funct6 * 2 ^ 26 + shamt * 2 ^ 20 + rs1 * 2 ^ 15 + funct3 * 2 ^ 12 + rd * 2 ^ 7 + opcode ≡ word = both.1 in
    let ranges : (opcode < 128) × (funct3 < 8) × (2 * funct6 < 128) × (rd < 32) × (rs1 < 32) × (shamt < 64) = grind (arith, nat_tests, both.0, fixed) in
    (omega arith, omega arith, omega arith, omega arith, omega arith, omega arith, omega (arith, both.1))

pub i_read : (opcode funct3 rd rs1 : ℕ) (value : ℤ) (word : ℕ) → Fixed opcode funct3 0 → i_type opcode funct3 rd rs1 value ≡ Some word
    → (opcode_of word ≡ opcode) × (funct3_of word ≡ funct3) × (rd_of word ≡ rd) × (rs1_of word ≡ rs1) × (i_imm word ≡ value) × (word < 2 ^ 32)
unfolding i_type
i_read opcode funct3 rd rs1 value word fixed h =
    let both = given _ _ word h in
    let ranges : (opcode < 128) × (funct3 < 8) × (rd < 32) × (rs1 < 32) × (holds 12 value ≡ true) = grind (arith, nat_tests, both.0, fixed) in
    let small = twos_complement-lt 12 refl value ranges.4 in
    let imm : bits word 20 12 ≡ twos_complement 12 value = omega (arith, both.1) in
    (omega (arith, both.1), omega (arith, both.1), omega (arith, both.1), omega (arith, both.1), rw imm (signed-twos_complement 12 refl value ranges.4), omega (arith, both.1))

pub s_read : (opcode funct3 rs1 rs2 : ℕ) (value : ℤ) (word : ℕ) → Fixed opcode funct3 0 → s_type opcode funct3 rs1 rs2 value ≡ Some word
    → (opcode_of word ≡ opcode) × (funct3_of word ≡ funct3) × (rs1_of word ≡ rs1) × (rs2_of word ≡ rs2) × (s_imm word ≡ value) × (word < 2 ^ 32)
unfolding s_type
s_read opcode funct3 rs1 rs2 value word fixed h =
    let both = given _ _ word h in
    let ranges : (opcode < 128) × (funct3 < 8) × (rs1 < 32) × (rs2 < 32) × (holds 12 value ≡ true) = grind (arith, nat_tests, both.0, fixed) in
    let join = s_join (twos_complement 12 value) (twos_complement-lt 12 refl value ranges.4) in
    let high : bits word 25 7 ≡ bits (twos_complement 12 value) 5 7 = omega (arith, both.1) in
    let low : bits word 7 5 ≡ bits (twos_complement 12 value) 0 5 = omega (arith, both.1) in
    (omega (arith, both.1), omega (arith, both.1), omega (arith, both.1), omega (arith, both.1), rw (high, low, join) (signed-twos_complement 12 refl value ranges.4), omega (arith, both.1))

pub b_read : (opcode funct3 rs1 rs2 : ℕ) (value : ℤ) (word : ℕ) → Fixed opcode funct3 0 → b_type opcode funct3 rs1 rs2 value ≡ Some word
    → (opcode_of word ≡ opcode) × (funct3_of word ≡ funct3) × (rs1_of word ≡ rs1) × (rs2_of word ≡ rs2) × (b_imm word ≡ value) × (word < 2 ^ 32)
unfolding b_type
b_read opcode funct3 rs1 rs2 value word fixed h =
    let both = given _ _ word h in
    let ranges : (opcode < 128) × (funct3 < 8) × (rs1 < 32) × (rs2 < 32) × (holds 13 value ≡ true) × (is_even value ≡ true) = grind (arith, nat_tests, both.0, fixed) in
    let even = twos_complement-even 13 refl value refl ranges.4 ranges.5 in
    let join = b_join (twos_complement 13 value) (twos_complement-lt 13 refl value ranges.4) even in
    let top : bits word 31 1 ≡ bits (twos_complement 13 value) 12 1 = omega (arith, both.1) in
    let next : bits word 7 1 ≡ bits (twos_complement 13 value) 11 1 = omega (arith, both.1) in
    let high : bits word 25 6 ≡ bits (twos_complement 13 value) 5 6 = omega (arith, both.1) in
    let low : bits word 8 4 ≡ bits (twos_complement 13 value) 1 4 = omega (arith, both.1) in
    (omega (arith, both.1), omega (arith, both.1), omega (arith, both.1), omega (arith, both.1), rw (top, next, high, low, join) (signed-twos_complement 13 refl value ranges.4), omega (arith, both.1))

pub u_read : (opcode rd : ℕ) (value : ℤ) (word : ℕ) → Fixed opcode 0 0 → u_type opcode rd value ≡ Some word
    → (opcode_of word ≡ opcode) × (rd_of word ≡ rd) × (u_imm word ≡ value) × (word < 2 ^ 32)
unfolding u_type
u_read opcode rd value word fixed h =
    let both = given _ _ word h in
    let ranges : (opcode < 128) × (rd < 32) × (holds 20 value ≡ true) = grind (arith, nat_tests, both.0, fixed) in
    let small = twos_complement-lt 20 refl value ranges.2 in
    let imm : bits word 12 20 ≡ twos_complement 20 value = omega (arith, both.1) in
    (omega (arith, both.1), omega (arith, both.1), rw imm (signed-twos_complement 20 refl value ranges.2), omega (arith, both.1))

pub j_read : (opcode rd : ℕ) (value : ℤ) (word : ℕ) → Fixed opcode 0 0 → j_type opcode rd value ≡ Some word
    → (opcode_of word ≡ opcode) × (rd_of word ≡ rd) × (j_imm word ≡ value) × (word < 2 ^ 32)
unfolding j_type
j_read opcode rd value word fixed h =
    let both = given _ _ word h in
    let ranges : (opcode < 128) × (rd < 32) × (holds 21 value ≡ true) × (is_even value ≡ true) = grind (arith, nat_tests, both.0, fixed) in
    let even = twos_complement-even 21 refl value refl ranges.2 ranges.3 in
    let join = j_join (twos_complement 21 value) (twos_complement-lt 21 refl value ranges.2) even in
    let top : bits word 31 1 ≡ bits (twos_complement 21 value) 20 1 = omega (arith, both.1) in
    let low : bits word 21 10 ≡ bits (twos_complement 21 value) 1 10 = omega (arith, both.1) in
    let next : bits word 20 1 ≡ bits (twos_complement 21 value) 11 1 = omega (arith, both.1) in
    let high : bits word 12 8 ≡ bits (twos_complement 21 value) 12 8 = omega (arith, both.1) in
    (omega (arith, both.1), omega (arith, both.1), rw (top, high, next, low, join) (signed-twos_complement 21 refl value ranges.2), omega (arith, both.1))

pub fence_read : (opcode funct3 fm pred succ rs1 rd word : ℕ) → Fixed opcode funct3 0 → fence_type opcode funct3 fm pred succ rs1 rd ≡ Some word
    → (opcode_of word ≡ opcode) × (funct3_of word ≡ funct3) × (bits word 28 4 ≡ fm) × (bits word 24 4 ≡ pred) × (bits word 20 4 ≡ succ) × (rs1_of word ≡ rs1) × (rd_of word ≡ rd) × (word < 2 ^ 32)
unfolding fence_type
fence_read opcode funct3 fm pred succ rs1 rd word fixed h =
    let both = given _ _ word h in
    let ranges : (opcode < 128) × (funct3 < 8) × (fm < 16) × (pred < 16) × (succ < 16) × (rs1 < 32) × (rd < 32) = grind (arith, nat_tests, both.0, fixed) in
    (omega (arith, both.1), omega (arith, both.1), omega (arith, both.1), omega (arith, both.1), omega (arith, both.1), omega (arith, both.1), omega (arith, both.1), omega (arith, both.1))
