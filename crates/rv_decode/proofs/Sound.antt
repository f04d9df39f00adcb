-- Each word that decodes is the word of its instruction.
use Rattle.std.proofs.Common.{◌≡◌, ℕ, ◌<◌, ◌^◌, ◌==◌, Bool, true, false, ℤ, Option, Some, None, IfSome, if◌then◌else◌, refl, arith}
use Rattle.std.proofs.lemmas.Bool.Decides.{nat_tests, Decides-eqb}
use Rattle.rv_decode.specs.declared.instr.Instr.{Instr}
use Rattle.rv_decode.specs.Formats.{r_type, i_type, s_type, b_type, shift64_type, shift32_type, fence_type}
use Rattle.rv_decode.specs.Encoding.{encoding}
use Rattle.rv_decode.specs.Decoding.{branch, load, store, op_imm, op_imm_32, op, op_base, op_other, op_mul, op_32, op_32_base, op_32_other, op_32_mul, jump_register, misc_mem, system, decoded}
use Rattle.rv_decode.proofs.Words.{r_word, i_word, s_word, b_word, u_word, j_word, shift64_word, shift32_word, fence_word}

-- the instruction, if there is one, has the word
abbrev pub Has : ℕ → Option Instr → Type 0
Has word found = IfSome found (λ i. encoding i ≡ Some word)

branch_has : (word funct3 rs1 rs2 : ℕ) (value : ℤ) → ((f : ℕ) → funct3 ≡ f → b_type 0x63 f rs1 rs2 value ≡ Some word) → Has word (branch funct3 rs1 rs2 value)
unfolding branch
branch_has word funct3 rs1 rs2 value h = grind (arith, nat_tests, h)

load_has : (word funct3 rd rs1 : ℕ) (value : ℤ) → ((f : ℕ) → funct3 ≡ f → i_type 0x03 f rd rs1 value ≡ Some word) → Has word (load funct3 rd rs1 value)
unfolding load
load_has word funct3 rd rs1 value h = grind (arith, nat_tests, h)

store_has : (word funct3 rs1 rs2 : ℕ) (value : ℤ) → ((f : ℕ) → funct3 ≡ f → s_type 0x23 f rs1 rs2 value ≡ Some word) → Has word (store funct3 rs1 rs2 value)
unfolding store
store_has word funct3 rs1 rs2 value h = grind (arith, nat_tests, h)

op_imm_has : (word funct3 funct6 rd rs1 : ℕ) (value : ℤ) (shamt : ℕ) → ((f : ℕ) → funct3 ≡ f → i_type 0x13 f rd rs1 value ≡ Some word)
    → ((f g : ℕ) → funct3 ≡ f → funct6 ≡ g → shift64_type 0x13 f g rd rs1 shamt ≡ Some word) → Has word (op_imm funct3 funct6 rd rs1 value shamt)
unfolding op_imm
op_imm_has word funct3 funct6 rd rs1 value shamt h s = grind (arith, nat_tests, h, s)

op_imm_32_has : (word funct3 funct7 rd rs1 : ℕ) (value : ℤ) (shamt : ℕ) → ((f : ℕ) → funct3 ≡ f → i_type 0x1B f rd rs1 value ≡ Some word)
    → ((f g : ℕ) → funct3 ≡ f → funct7 ≡ g → shift32_type 0x1B f g rd rs1 shamt ≡ Some word) → Has word (op_imm_32 funct3 funct7 rd rs1 value shamt)
unfolding op_imm_32
op_imm_32_has word funct3 funct7 rd rs1 value shamt h s = grind (arith, nat_tests, h, s)

op_has : (word funct3 funct7 rd rs1 rs2 : ℕ) → ((f g : ℕ) → funct3 ≡ f → funct7 ≡ g → r_type 0x33 f g rd rs1 rs2 ≡ Some word) → Has word (op funct3 funct7 rd rs1 rs2)
unfolding op op_base op_other op_mul
op_has word funct3 funct7 rd rs1 rs2 h = grind (arith, nat_tests, h)

op_32_has : (word funct3 funct7 rd rs1 rs2 : ℕ) → ((f g : ℕ) → funct3 ≡ f → funct7 ≡ g → r_type 0x3B f g rd rs1 rs2 ≡ Some word) → Has word (op_32 funct3 funct7 rd rs1 rs2)
unfolding op_32 op_32_base op_32_other op_32_mul
op_32_has word funct3 funct7 rd rs1 rs2 h = grind (arith, nat_tests, h)

jump_register_has : (word funct3 rd rs1 : ℕ) (value : ℤ) → ((f : ℕ) → funct3 ≡ f → i_type 0x67 f rd rs1 value ≡ Some word) → Has word (jump_register funct3 rd rs1 value)
unfolding jump_register
jump_register_has word funct3 rd rs1 value h = grind (arith, nat_tests, h)

misc_mem_has : (word funct3 fm pred succ rs1 rd : ℕ) → ((f : ℕ) → funct3 ≡ f → fence_type 0x0F f fm pred succ rs1 rd ≡ Some word) → Has word (misc_mem funct3 fm pred succ rs1 rd)
unfolding misc_mem
misc_mem_has word funct3 fm pred succ rs1 rd h = grind (arith, nat_tests, h)

system_has : (word : ℕ) → Has word (system word)
unfolding system
system_has word = grind (arith, nat_tests)

-- what is found by a chain of tests
record Found (word : ℕ) (found : Option Instr) : Type 0 where
  has : Has word found

chosen : (word : ℕ) (test : Bool) (x y : Option Instr) → (test ≡ true → Found word x) → Found word y → Found word (if test then x else y)
chosen word true x y here later = here refl
chosen word false x y here later = later

nothing_found : (word : ℕ) → Found word None
nothing_found word = record { has = tt }

if_equal : {word : ℕ} (rs1 rs2 : ℕ) (x y : Option Instr) → (rs1 ≡ rs2 → Found word x) → Found word y → Found word (if rs1 == rs2 then x else y)
if_equal {word} rs1 rs2 x y here later = chosen word (rs1 == rs2) x y (λ test. here ((Decides-eqb rs1 rs2).0 test)) later

decoded_found : (word : ℕ) → word < 2 ^ 32 → Found word (decoded word)
unfolding decoded
decoded_found word small =
    if_equal _ _ _ _ (λ e. record { has = load_has word _ _ _ _ (λ f is. i_word word small 0x03 f e is) })
    (if_equal _ _ _ _ (λ e. record { has = misc_mem_has word _ _ _ _ _ _ (λ f is. fence_word word small 0x0F f e is) })
    (if_equal _ _ _ _ (λ e. record { has = op_imm_has word _ _ _ _ _ _ (λ f is. i_word word small 0x13 f e is) (λ f g is at. shift64_word word small 0x13 f g e is at) })
    (if_equal _ _ _ _ (λ e. record { has = u_word word small 0x17 e })
    (if_equal _ _ _ _ (λ e. record { has = op_imm_32_has word _ _ _ _ _ _ (λ f is. i_word word small 0x1B f e is) (λ f g is at. shift32_word word small 0x1B f g e is at) })
    (if_equal _ _ _ _ (λ e. record { has = store_has word _ _ _ _ (λ f is. s_word word small 0x23 f e is) })
    (if_equal _ _ _ _ (λ e. record { has = op_has word _ _ _ _ _ (λ f g is at. r_word word small 0x33 f g e is at) })
    (if_equal _ _ _ _ (λ e. record { has = u_word word small 0x37 e })
    (if_equal _ _ _ _ (λ e. record { has = op_32_has word _ _ _ _ _ (λ f g is at. r_word word small 0x3B f g e is at) })
    (if_equal _ _ _ _ (λ e. record { has = branch_has word _ _ _ _ (λ f is. b_word word small 0x63 f e is) })
    (if_equal _ _ _ _ (λ e. record { has = jump_register_has word _ _ _ _ (λ f is. i_word word small 0x67 f e is) })
    (if_equal _ _ _ _ (λ e. record { has = j_word word small 0x6F e })
    (if_equal _ _ _ _ (λ e. record { has = system_has word }) (nothing_found word)))))))))))))

pub decoded_has : (word : ℕ) → word < 2 ^ 32 → Has word (decoded word)
decoded_has word small = (decoded_found word small).has
