-- A word, by each format, is the word of its own fields.
use Rattle.std.proofs.Common.{◌≡◌, ℕ, ◌+◌, ◌*◌, ◌^◌, ◌<◌, Some, refl, arith}
use Rattle.std.proofs.lemmas.Bool.Decides.{nat_tests}
use Rattle.rv_decode.specs.Fields.{bits}
use Rattle.rv_decode.specs.Formats.{r_type, i_type, s_type, b_type, u_type, j_type, shift64_type, shift32_type, fence_type}
use Rattle.rv_decode.specs.Decoding.{i_imm, s_imm, b_imm, u_imm, j_imm}
use Rattle.rv_decode.proofs.TwosComplement.{twos_complement-signed, holds-signed, is_even-signed}
use Rattle.rv_decode.proofs.Parts.{r_parts, i_parts, b_parts, u_parts, j_parts, shift64_parts, fence_parts, s_high, s_low, s_lt, b_top, b_next, b_high, b_low, b_lt, b_even, b_sum, j_top, j_high, j_next, j_low, j_lt, j_even, j_sum}

module _ (word : ℕ) (small : word < 2 ^ 32) where
  pub r_word : (opcode funct3 funct7 : ℕ) → bits word 0 7 ≡ opcode → bits word 12 3 ≡ funct3 → bits word 25 7 ≡ funct7 → r_type opcode funct3 funct7 (bits word 7 5) (bits word 15 5) (bits word 20 5) ≡ Some word
  unfolding r_type
  r_word opcode funct3 funct7 opcode_is funct3_is funct7_is = let parts = r_parts word small in grind (arith, nat_tests)

  pub i_word : (opcode funct3 : ℕ) → bits word 0 7 ≡ opcode → bits word 12 3 ≡ funct3 → i_type opcode funct3 (bits word 7 5) (bits word 15 5) (i_imm word) ≡ Some word
  unfolding i_type
  i_word opcode funct3 opcode_is funct3_is =
      let parts = i_parts word small in
      let back = twos_complement-signed 12 refl (bits word 20 12) (omega arith) in
      let holding = holds-signed 12 refl (bits word 20 12) (omega arith) in
      rw (back, holding) (grind (arith, nat_tests))

  pub s_word : (opcode funct3 : ℕ) → bits word 0 7 ≡ opcode → bits word 12 3 ≡ funct3 → s_type opcode funct3 (bits word 15 5) (bits word 20 5) (s_imm word) ≡ Some word
  unfolding s_type
  s_word opcode funct3 opcode_is funct3_is =
      let parts = r_parts word small in
      let high_lt : bits word 25 7 < 2 ^ 7 = omega arith in
      let low_lt : bits word 7 5 < 2 ^ 5 = omega arith in
      let n_lt = s_lt (bits word 25 7) (bits word 7 5) high_lt low_lt in
      let back = twos_complement-signed 12 refl (bits word 25 7 * 2 ^ 5 + bits word 7 5) n_lt in
      let holding = holds-signed 12 refl (bits word 25 7 * 2 ^ 5 + bits word 7 5) n_lt in
      let high = s_high (bits word 25 7) (bits word 7 5) high_lt low_lt in
      let low = s_low (bits word 25 7) (bits word 7 5) high_lt low_lt in
      rw (back, holding, high, low) (grind (arith, nat_tests))

  pub b_word : (opcode funct3 : ℕ) → bits word 0 7 ≡ opcode → bits word 12 3 ≡ funct3 → b_type opcode funct3 (bits word 15 5) (bits word 20 5) (b_imm word) ≡ Some word
  unfolding b_type
  b_word opcode funct3 opcode_is funct3_is =
      let parts = b_parts word small in
      let top : bits word 31 1 < 2 ^ 1 = omega arith in
      let next : bits word 7 1 < 2 ^ 1 = omega arith in
      let high : bits word 25 6 < 2 ^ 6 = omega arith in
      let low : bits word 8 4 < 2 ^ 4 = omega arith in
      let n = b_sum (bits word 31 1) (bits word 7 1) (bits word 25 6) (bits word 8 4) top next high low in
      let n_lt = b_lt _ _ _ _ top next high low in
      let back = twos_complement-signed 13 refl n n_lt in
      let holding = holds-signed 13 refl n n_lt in
      let even = is_even-signed 13 refl n refl n_lt (b_even _ _ _ _ top next high low) in
      rw (back, holding, even, b_top _ _ _ _ top next high low, b_next _ _ _ _ top next high low, b_high _ _ _ _ top next high low, b_low _ _ _ _ top next high low) (grind (arith, nat_tests))

  pub u_word : (opcode : ℕ) → bits word 0 7 ≡ opcode → u_type opcode (bits word 7 5) (u_imm word) ≡ Some word
  unfolding u_type
  u_word opcode opcode_is =
      let parts = u_parts word small in
      let back = twos_complement-signed 20 refl (bits word 12 20) (omega arith) in
      let holding = holds-signed 20 refl (bits word 12 20) (omega arith) in
      rw (back, holding) (grind (arith, nat_tests))

  pub j_word : (opcode : ℕ) → bits word 0 7 ≡ opcode → j_type opcode (bits word 7 5) (j_imm word) ≡ Some word
  unfolding j_type
  j_word opcode opcode_is =
      let parts = j_parts word small in
      let top : bits word 31 1 < 2 ^ 1 = omega arith in
      let high : bits word 12 8 < 2 ^ 8 = omega arith in
      let next : bits word 20 1 < 2 ^ 1 = omega arith in
      let low : bits word 21 10 < 2 ^ 10 = omega arith in
      let n = j_sum (bits word 31 1) (bits word 12 8) (bits word 20 1) (bits word 21 10) top high next low in
      let n_lt = j_lt _ _ _ _ top high next low in
      let back = twos_complement-signed 21 refl n n_lt in
      let holding = holds-signed 21 refl n n_lt in
      let even = is_even-signed 21 refl n refl n_lt (j_even _ _ _ _ top high next low) in
      rw (back, holding, even, j_top _ _ _ _ top high next low, j_low _ _ _ _ top high next low, j_next _ _ _ _ top high next low, j_high _ _ _ _ top high next low) (grind (arith, nat_tests))

  pub shift64_word : (opcode funct3 funct6 : ℕ) → bits word 0 7 ≡ opcode → bits word 12 3 ≡ funct3 → bits word 26 6 ≡ funct6 → shift64_type opcode funct3 funct6 (bits word 7 5) (bits word 15 5) (bits word 20 6) ≡ Some word
  unfolding shift64_type
  shift64_word opcode funct3 funct6 opcode_is funct3_is funct7_is = let parts = shift64_parts word small in grind (arith, nat_tests)

  pub shift32_word : (opcode funct3 funct7 : ℕ) → bits word 0 7 ≡ opcode → bits word 12 3 ≡ funct3 → bits word 25 7 ≡ funct7 → shift32_type opcode funct3 funct7 (bits word 7 5) (bits word 15 5) (bits word 20 5) ≡ Some word
  unfolding shift32_type
  shift32_word opcode funct3 funct7 opcode_is funct3_is funct7_is = let parts = r_parts word small in grind (arith, nat_tests)

  pub fence_word : (opcode funct3 : ℕ) → bits word 0 7 ≡ opcode → bits word 12 3 ≡ funct3 → fence_type opcode funct3 (bits word 28 4) (bits word 24 4) (bits word 20 4) (bits word 15 5) (bits word 7 5) ≡ Some word
  unfolding fence_type
  fence_word opcode funct3 opcode_is funct3_is = let parts = fence_parts word small in grind (arith, nat_tests)
