-- How an integer argument fills a register (RISC-V ELF psABI, Integer Calling Convention).
use Rattle.std.specs.Prelude.{ℕ, ◌-◌, ◌*◌, ◌%◌, ◌^◌, ◌||◌, ◌==◌, max, Bool, ℤ, pos, ◌-ℤ◌, nat_lt, unsigned_abs, if◌then◌else◌}
use Rattle.std.specs.Int.{int_rem_euclid}

-- the sizes of integer types, in bytes
abbrev pub is_integer_size : ℕ → Bool
is_integer_size width = width == 1 || width == 2 || width == 4 || width == 8

-- an integer in n bits, as two's complement has it: what is left of it below 2 ^ n
abbrev pub pattern : ℕ → ℤ → ℕ
pattern n z = unsigned_abs (int_rem_euclid z (pos (2 ^ n)))

-- the signed integer that n bits stand for
abbrev pub signed_of : ℕ → ℕ → ℤ
signed_of n p = if nat_lt p (2 ^ (n - 1)) then pos p else pos p -ℤ pos (2 ^ n)

-- the integer in the low `width` bytes, by the sign of its type
abbrev pub integer_of : ℕ → ℕ → Bool → ℤ
integer_of bits width signed =
    if signed then signed_of (8 * width) (bits % 2 ^ (8 * width)) else pos (bits % 2 ^ (8 * width))

-- An integer fills its register in two steps: by its type's sign to 32 bits, or its own bits where those are more; then as a
-- signed number of these to all 64, whatever its type.
abbrev pub widened : ℕ → ℕ → Bool → ℕ
widened bits width signed =
    let size = 8 * max width 4 in
    pattern 64 (signed_of size (pattern size (integer_of bits width signed)))
