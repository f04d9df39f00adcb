-- A word is the sum of its fields, and each field is read back from such a sum.
use Rattle.std.proofs.Common.{◌≡◌, ℕ, ◌+◌, ◌*◌, ◌%◌, ◌^◌, ◌<◌, arith}
use Rattle.rv_decode.specs.Fields.{bits}

-- a word is the sum of the fields of each format
module _ (word : ℕ) (small : word < 2 ^ 32) where
  pub r_parts : bits word 25 7 * 2 ^ 25 + bits word 20 5 * 2 ^ 20 + bits word 15 5 * 2 ^ 15 + bits word 12 3 * 2 ^ 12 + bits word 7 5 * 2 ^ 7 + bits word 0 7 ≡ word
  r_parts = omega arith

  pub i_parts : bits word 20 12 * 2 ^ 20 + bits word 15 5 * 2 ^ 15 + bits word 12 3 * 2 ^ 12 + bits word 7 5 * 2 ^ 7 + bits word 0 7 ≡ word
  i_parts = omega arith

  pub b_parts : bits word 31 1 * 2 ^ 31 + bits word 25 6 * 2 ^ 25 + bits word 20 5 * 2 ^ 20 + bits word 15 5 * 2 ^ 15 + bits word 12 3 * 2 ^ 12 + bits word 8 4 * 2 ^ 8 + bits word 7 1 * 2 ^ 7 + bits word 0 7 ≡ word
  b_parts = omega arith

  pub u_parts : bits word 12 20 * 2 ^ 12 + bits word 7 5 * 2 ^ 7 + bits word 0 7 ≡ word
  u_parts = omega arith

  pub j_parts : bits word 31 1 * 2 ^ 31 + bits word 21 10 * 2 ^ 21 + bits word 20 1 * 2 ^ 20 + bits word 12 8 * 2 ^ 12 + bits word 7 5 * 2 ^ 7 + bits word 0 7 ≡ word
  j_parts = omega arith

  pub shift64_parts : bits word 26 6 * 2 ^ 26 + bits word 20 6 * 2 ^ 20 + bits word 15 5 * 2 ^ 15 + bits word 12 3 * 2 ^ 12 + bits word 7 5 * 2 ^ 7 + bits word 0 7 ≡ word
  shift64_parts = omega arith

  pub fence_parts : bits word 28 4 * 2 ^ 28 + bits word 24 4 * 2 ^ 24 + bits word 20 4 * 2 ^ 20 + bits word 15 5 * 2 ^ 15 + bits word 12 3 * 2 ^ 12 + bits word 7 5 * 2 ^ 7 + bits word 0 7 ≡ word
  fence_parts = omega arith

-- S: high and low part of 12 bits
module _ (high low : ℕ) (high_lt : high < 2 ^ 7) (low_lt : low < 2 ^ 5) where
  pub s_high : bits (high * 2 ^ 5 + low) 5 7 ≡ high
  s_high = omega arith

  pub s_low : bits (high * 2 ^ 5 + low) 0 5 ≡ low
  s_low = omega arith

  pub s_lt : high * 2 ^ 5 + low < 2 ^ 12
  s_lt = omega arith

pub s_join : (n : ℕ) → n < 2 ^ 12 → bits n 5 7 * 2 ^ 5 + bits n 0 5 ≡ n
s_join n small = omega arith

-- B: bits 12, 11, 10 to 5, and 4 to 1 of 13 bits
module _ (top next high low : ℕ) (top_lt : top < 2 ^ 1) (next_lt : next < 2 ^ 1) (high_lt : high < 2 ^ 6) (low_lt : low < 2 ^ 4) where
  abbrev pub b_sum : ℕ
  b_sum = top * 2 ^ 12 + next * 2 ^ 11 + high * 2 ^ 5 + low * 2 ^ 1

  pub b_top : bits b_sum 12 1 ≡ top
  b_top = omega arith

  pub b_next : bits b_sum 11 1 ≡ next
  b_next = omega arith

  pub b_high : bits b_sum 5 6 ≡ high
  b_high = omega arith

  pub b_low : bits b_sum 1 4 ≡ low
  b_low = omega arith

  pub b_lt : b_sum < 2 ^ 13
  b_lt = omega arith

  pub b_even : b_sum % 2 ≡ 0
  b_even = omega arith

pub b_join : (n : ℕ) → n < 2 ^ 13 → n % 2 ≡ 0 → bits n 12 1 * 2 ^ 12 + bits n 11 1 * 2 ^ 11 + bits n 5 6 * 2 ^ 5 + bits n 1 4 * 2 ^ 1 ≡ n
b_join n small even = omega arith

-- J: bits 20, 19 to 12, 11, and 10 to 1 of 21 bits
module _ (top high next low : ℕ) (top_lt : top < 2 ^ 1) (high_lt : high < 2 ^ 8) (next_lt : next < 2 ^ 1) (low_lt : low < 2 ^ 10) where
  abbrev pub j_sum : ℕ
  j_sum = top * 2 ^ 20 + high * 2 ^ 12 + next * 2 ^ 11 + low * 2 ^ 1

  pub j_top : bits j_sum 20 1 ≡ top
  j_top = omega arith

  pub j_high : bits j_sum 12 8 ≡ high
  j_high = omega arith

  pub j_next : bits j_sum 11 1 ≡ next
  j_next = omega arith

  pub j_low : bits j_sum 1 10 ≡ low
  j_low = omega arith

  pub j_lt : j_sum < 2 ^ 21
  j_lt = omega arith

  pub j_even : j_sum % 2 ≡ 0
  j_even = omega arith

pub j_join : (n : ℕ) → n < 2 ^ 21 → n % 2 ≡ 0 → bits n 20 1 * 2 ^ 20 + bits n 12 8 * 2 ^ 12 + bits n 11 1 * 2 ^ 11 + bits n 1 10 * 2 ^ 1 ≡ n
j_join n small even = omega arith
