-- Numbers in bytes: little-endian ones, and the compressed ones of blobs (ECMA-335 II.23.2).
use Rattle.std.specs.Prelude.{ℕ, ◌+◌, ◌-◌, nat_lt, nat_le, List, length, drop, slice_index, Option, Some, None, if◌then◌else◌, ◌==◌, option_and_then}
use Rattle.byteorder.specs.Endian.{little_number, big_number}

-- the number of n bytes at a place, lowest byte first
unfoldable pub le : List ℕ → ℕ → ℕ → ℕ
le bytes at n = little_number n (drop at bytes)

-- that number, where all of its bytes are there
abbrev pub number_at : List ℕ → ℕ → ℕ → Option ℕ
number_at bytes at n = if nat_le (at + n) (length bytes) then Some (le bytes at n) else None

-- how many bytes a compressed number takes, by its first byte; no number begins with 0xE0 or more
abbrev pub compressed_size : ℕ → Option ℕ
compressed_size first =
    if nat_lt first 0x80 then Some 1
    else if nat_lt first 0xC0 then Some 2
    else if nat_lt first 0xE0 then Some 4
    else None

-- a compressed number is big-endian, less the bits that mark its size
abbrev pub compressed_of : List ℕ → ℕ → ℕ
compressed_of bytes size =
    big_number size bytes - (if size == 2 then 0x8000 else if size == 4 then 0xC0000000 else 0)

-- the compressed number at a place, and how many bytes it takes
abbrev pub compressed_at : List ℕ → ℕ → Option (ℕ × ℕ)
compressed_at bytes at =
    if nat_lt at (length bytes)
    then option_and_then (λ size.
    if nat_le (at + size) (length bytes)
    then Some (compressed_of (drop at bytes) size, size)
    else None)
    (compressed_size (slice_index bytes at))
    else None
