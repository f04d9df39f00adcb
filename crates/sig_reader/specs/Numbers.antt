-- Compressed numbers in signatures (ECMA-335 II.23.2), each with the bytes that it takes.
use Rattle.std.specs.Prelude.{◌≡◌, ℕ, ◌+◌, ◌-◌, ◌*◌, ◌/◌, ◌%◌, Bool, true, false, ◌&&◌, ◌==◌, not, nat_lt, nat_le, List, [], ◌∷◌, if◌then◌else◌, ℤ, pos, ◌-ℤ◌}
use Rattle.sig_reader.specs.declared.numbers.Numbers.{Numbers}
use Rattle.sig_reader.specs.declared.numbers.Numbers.TheVariants.{Between, Coded}

-- the numbers that a place of the grammar takes: those of a range, or those that name a row of
-- TypeDef, TypeRef or TypeSpec, whose lowest two bits say which (II.23.2.8)
abbrev pub allows : Numbers → ℕ → Bool
allows (Between least most) n = nat_le least n && nat_le n most
allows Coded n = not (n % 4 == 3)

-- the greatest compressed number
abbrev pub any_number : Numbers
any_number = Between 0 0x1FFFFFFF

-- Bytes that are one compressed number: its value and how many bytes it takes. A number below 2^7
-- may take one, one below 2^14 two, one below 2^29 four.
abbrev pub IsCompressed : List ℕ → ℕ × ℕ → Type 0
IsCompressed [] x = ⊥
IsCompressed (a ∷ []) x = (nat_lt a 0x80 ≡ true) × (x ≡ (a, 1))
IsCompressed (a ∷ b ∷ []) x =
    (nat_lt a 0x80 ≡ false) × (nat_lt a 0xC0 ≡ true) × (x ≡ ((a - 0x80) * 256 + b, 2))
IsCompressed (a ∷ b ∷ c ∷ []) x = ⊥
IsCompressed (a ∷ b ∷ c ∷ d ∷ []) x =
    (nat_lt a 0x80 ≡ false) × (nat_lt a 0xC0 ≡ false) × (nat_lt a 0xE0 ≡ true)
    × (x ≡ ((((a - 0xC0) * 256 + b) * 256 + c) * 256 + d, 4))
IsCompressed (a ∷ b ∷ c ∷ d ∷ e ∷ bytes) x = ⊥

-- the table and row of a coded number as a metadata token; a row above 2^24 - 1 names nothing, as
-- row 0 does
abbrev pub token_of : ℕ → ℕ
token_of n =
    (if n % 4 == 0 then 0x02000000 else if n % 4 == 1 then 0x01000000 else 0x1B000000)
    + (if nat_le (n / 4) 0x00FFFFFF then n / 4 else 0)

-- the half of the values that a number of so many bytes has
abbrev pub half_range : ℕ → ℕ
half_range size = if size == 1 then 0x40 else if size == 2 then 0x2000 else 0x10000000

-- a compressed number read as a signed one, whose lowest bit is its sign
abbrev pub signed_of : ℕ × ℕ → ℤ
signed_of x = if x.0 % 2 == 0 then pos (x.0 / 2) else pos (x.0 / 2) -ℤ pos (half_range x.1)
