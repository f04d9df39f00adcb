-- Fields of a word, and signed numbers in two's complement.
use Rattle.std.specs.Prelude.{ℕ, ◌+◌, ◌-◌, ◌/◌, ◌%◌, ◌^◌, Bool, nat_lt, ◌==◌, ℤ, pos, negsuc, unsigned_abs, if◌then◌else◌}

-- the bits of a number from bit `low` up, `width` of them
abbrev pub bits : ℕ → ℕ → ℕ → ℕ
bits number low width = number / 2 ^ low % 2 ^ width

-- a signed number of `width` bits, as its two's complement
abbrev pub twos_complement : ℕ → ℤ → ℕ
twos_complement width (pos n) = n
twos_complement width (negsuc n) = 2 ^ width - (n + 1)

-- the signed number whose two's complement of `width` bits this is
abbrev pub signed : ℕ → ℕ → ℤ
signed width n = if nat_lt n (2 ^ (width - 1)) then pos n else negsuc (2 ^ width - (n + 1))

-- `width` bits hold the signed number
abbrev pub holds : ℕ → ℤ → Bool
holds width (pos n) = nat_lt n (2 ^ (width - 1))
holds width (negsuc n) = nat_lt n (2 ^ (width - 1))

abbrev pub is_even : ℤ → Bool
is_even value = unsigned_abs value % 2 == 0

-- 5 bits hold the number of a register
abbrev pub is_register : ℕ → Bool
is_register r = nat_lt r 32
